use Rattle.least.proofs.Steps.{step_given, step-lacking}
use borrow.Author.Rules.{rules}
use Rattle.least.proofs.step.Goals as goal

pub returns-then-within : goal.returns-then-within
returns-then-within c = step_given _ _ _ _ c.within-2.ensures (search rules) c.given.ensures

pub returns-then-apart : goal.returns-then-apart
returns-then-apart c = step-lacking _ _ _ _ c.apart-2.ensures (search rules) c.lacking.ensures
