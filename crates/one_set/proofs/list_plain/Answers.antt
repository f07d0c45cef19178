use Rattle.one_set.proofs.Sets.{set-viewless, plain-refused, plain-listed}
use Rattle.few.proofs.Gathering.{store-for}
use Rattle.std.proofs.Common.{arith, rules}
use Rattle.one_set.proofs.list_plain.Goals as goal

pub gathered-requires : goal.gathered-requires
gathered-requires c = (omega (arith, c.requires.1), omega (arith, c.limit-cap.ensures.1, c.requires.2), c.limit-cap.ensures.0)

pub returns-in_default : goal.returns-in_default
returns-in_default c = λ u w. set-viewless _ _ _ _ _ _ _ _ _ _ _ _ c.requires.0.place w c.gathered.ensures.marks (c.gathered.ensures.none c.in_default.is)

pub tested-requires : goal.tested-requires
tested-requires c = rw c.gathered.ensures.marks.same c.requires.1

pub returns-then-not-tested : goal.returns-then-not-tested
returns-then-not-tested c = λ u w. plain-refused _ _ _ _ u _ _ _ _ _ _ _ _ _ _ _ c.gathered.ensures c.in-Some.is _ (c.tested.ensures u (c.gathered.ensures.some _ c.in-Some.is)) _ w (search rules) c.requires.0.place

pub list-requires : goal.list-requires
list-requires c = (c.requires.0, store-for _ _ _ c.limit-cap.ensures.1 c.requires.2 c.gathered.auto.store)

pub returns : goal.returns
returns c = λ u w. plain-listed _ _ _ _ u _ _ _ _ _ _ _ _ _ _ _ c.gathered.ensures c.in-Some.is _ (c.tested.ensures u (c.gathered.ensures.some _ c.in-Some.is)) _ w (search rules) _ _ c.list.ensures
