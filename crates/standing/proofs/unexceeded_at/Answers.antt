use Rattle.standing.proofs.Below.{at-absent, at-sure, at-asked}
use borrow.Author.Rules.{rules}
use Rattle.standing.proofs.unexceeded_at.Goals as goal

pub returns-then-taken-e-eq0 : goal.returns-then-taken-e-eq0
returns-then-taken-e-eq0 c = at-absent _ _ _ _ _ _ _ _ (search rules)

pub returns-then-b-e-eq1 : goal.returns-then-b-e-eq1
returns-then-b-e-eq1 c = at-sure _ _ _ _ _ _ _ _ (search rules)

pub returns : goal.returns
returns c = at-asked _ _ _ _ _ _ _ _ _ c.cleared.ensures _ c.with_sets-c.ensures (search rules) _ _ c.standing.ensures
