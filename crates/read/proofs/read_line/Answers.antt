use mathlib.Core.Path.{sym}
use native.Mathlib.Omega.{arith}
use borrow.Author.Rules.{rules}
use Rattle.std.proofs.lemmas.Result.{err_from_is_err_and}
use lib.ListN.{length}
use Rattle.std.proofs.lemmas.Slice.{between_to_end}
use Rattle.book.specs.Kinds.{none}
use Rattle.book.proofs.Counts.{kind-small}
use Rattle.book.specs.Faults.{numbered}
use Rattle.book.proofs.Faults.{numbered-ok, numbered-err}
use Rattle.read.proofs.LineLaws.{kind-heads, kind-contents, line-empty, line-elsewhere, line-long, line-fields, line-whole, line-right}
use Rattle.read.proofs.read_line.Goals as goal

pub returns-then-len-eq0 : goal.returns-then-len-eq0
returns-then-len-eq0 c = line-empty c.args.st _ _ c.args.text.now c.args.at c.args.len _ (search rules)

pub returns-in_default : goal.returns-in_default
returns-in_default c = line-elsewhere c.args.text.now c.args.at c.args.len c.args.st _ _ none (search rules) (search rules) (sym c.in_default.ensures) _ (omega arith)

pub overflow_mul-x : goal.overflow_mul-x
overflow_mul-x c = omega (arith, kind-small c.kind_at-x.result c.in-Some.k (search rules) c.in-Some.ensures.1)

pub returns-then-len-x : goal.returns-then-len-x
returns-then-len-x c = line-long c.args.text.now c.args.at c.args.len c.args.st _ _ c.in-Some.k (search rules) (search rules) c.in-Some.ensures.0 c.kind_at-x.result c.in-Some.ensures.1 (search rules) _ (search rules)

pub read_fields-requires : goal.read_fields-requires
read_fields-requires c = (omega arith, omega (arith, kind-small c.kind_at-x.result c.in-Some.k (search rules) c.in-Some.ensures.1), kind-contents c.kind_at-x.result c.in-Some.k (search rules) c.in-Some.ensures.1, search rules, search rules, search rules)

pub is_headless-requires : goal.is_headless-requires
is_headless-requires c = omega (arith, kind-heads c.kind_at-x.result c.in-Some.k c.kind_at-x.ensures c.in-Some.ensures.1)

pub returns-in_err-seen : goal.returns-in_err-seen
returns-in_err-seen c =
    let p = err_from_is_err_and c.from_residual.result c.from_residual.ensures.1 in
    rw (p.1, p.2) (line-fields c.args.text.now c.args.at c.args.len c.args.st _ _ c.in-Some.k (search rules) (search rules) c.in-Some.ensures.0 c.kind_at-x.result c.in-Some.ensures.1 c.kind_at-x.ensures (search rules) _ (numbered c.read_fields.result) c.read_fields.ensures _ (numbered-err _ _ c.in_err-seen.was))

pub returns-in_err-line_fault : goal.returns-in_err-line_fault
returns-in_err-line_fault c =
    let p = err_from_is_err_and c.from_residual-in_err-line_fault.result c.from_residual-in_err-line_fault.ensures.1 in
    rw (p.1, p.2) (line-whole c.args.text.now c.args.at c.args.len c.args.st _ _ c.in-Some.k (search rules) (search rules) c.in-Some.ensures.0 c.kind_at-x.result c.in-Some.ensures.1 c.kind_at-x.ensures (search rules) _ (numbered c.read_fields.result) c.read_fields.ensures c.in_ok-seen.seen (numbered-ok _ _ c.in_ok-seen.was) (search rules) c.is_headless.result (rw (between_to_end c.read_fields.new.t c.args.to (length c.read_fields.new.t) (omega arith)) at c.is_headless.ensures) (numbered c.line_fault.result) c.line_fault.ensures _ (numbered-err _ _ c.in_err-line_fault.was))

pub returns : goal.returns
returns c = line-right c.args.text.now c.args.at c.args.len c.args.st _ _ c.in-Some.k (search rules) (search rules) c.in-Some.ensures.0 c.kind_at-x.result c.in-Some.ensures.1 c.kind_at-x.ensures (search rules) _ (numbered c.read_fields.result) c.read_fields.ensures c.in_ok-seen.seen (numbered-ok _ _ c.in_ok-seen.was) (search rules) c.is_headless.result (rw (between_to_end c.read_fields.new.t c.args.to (length c.read_fields.new.t) (omega arith)) at c.is_headless.ensures) (numbered c.line_fault.result) c.line_fault.ensures _ (numbered-ok _ _ c.in_ok-line_fault.was)
