use Rattle.bounds.proofs.Steps.{step-taken, step-sure, step-head}
use borrow.Author.Rules.{rules}
use Rattle.bounds.proofs.step.Goals as goal

pub returns-then-r-b-ne0 : goal.returns-then-r-b-ne0
returns-then-r-b-ne0 c = step-taken _ _ _ (search rules) c.forced.ensures

pub returns-then-fires : goal.returns-then-fires
returns-then-fires c = step-sure _ _ _ _ c.fires.ensures (search rules) c.forced-then-fires.ensures

pub returns-then-apart : goal.returns-then-apart
returns-then-apart c = step-head _ _ _ _ c.apart.ensures (search rules) c.falsified.ensures
