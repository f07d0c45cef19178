use Rattle.bounds.proofs.Steps.{false-needed, false-barred}
use borrow.Author.Rules.{rules}
use Rattle.bounds.proofs.falsified.Goals as goal

pub returns-then-within : goal.returns-then-within
returns-then-within c = false-needed _ _ _ _ c.single-m.ensures _ c.within.ensures (search rules) _ (search rules) _ c.apart.ensures c.minus-x.ensures c.out.ensures

pub returns-then-within-3 : goal.returns-then-within-3
returns-then-within-3 c = false-barred _ _ _ _ c.single-m-then-within-2.ensures _ c.within-then-within-2.ensures (search rules) _ (search rules) _ c.within-2.ensures c.meet-y.ensures c.into.ensures
