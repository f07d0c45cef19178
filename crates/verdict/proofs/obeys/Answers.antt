use Rattle.verdict.proofs.Tests.{obeys-idle, obeys-head}
use borrow.Author.Rules.{rules}
use Rattle.verdict.proofs.obeys.Goals as goal

pub returns-then-not-fires : goal.returns-then-not-fires
returns-then-not-fires c = obeys-idle _ _ _ c.fires.ensures (search rules)

pub returns : goal.returns
returns c = obeys-head _ _ _ c.fires.ensures _ (search rules) c.apart.ensures
