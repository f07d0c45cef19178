use native.Mathlib.Omega.{arith}
use borrow.Author.Rules.{rules}
use borrow.Author.Tests.{not-true, not-false}
use Rattle.std.proofs.lemmas.List.{take_all}
use Rattle.points.proofs.Answers.{loc-none, loc-room, loc-misspelt, loc-found}
use Rattle.points.proofs.locate.Goals as goal

pub returns-in_default : goal.returns-in_default
returns-in_default c = loc-none _ _ c.entries.result c.entries.ensures c.in_default.is _ c.refused.ensures.0 c.refused.ensures.1

pub returns-then-not-is_name : goal.returns-then-not-is_name
returns-then-not-is_name c =
    let r = c.refused-then-not-is_name in
    loc-misspelt _ _ c.entries.result c.entries.ensures c.in-Some.k c.in-Some.is (omega arith) c.is_name.result c.is_name.ensures (not-true _ (search rules)) _ r.ensures.0 r.ensures.1

pub find-requires : goal.find-requires
find-requires c = (loc-room _ c.args.name.bytes c.entries.result c.entries.ensures c.in-Some.k c.in-Some.is, omega arith)

pub returns : goal.returns
returns c = loc-found _ _ c.entries.result c.entries.ensures c.in-Some.k c.in-Some.is (omega arith) c.is_name.result c.is_name.ensures (not-false _ (search rules)) c.find.result (rw (take_all 8 c.args.name.bytes (omega arith)) at c.find.ensures)
