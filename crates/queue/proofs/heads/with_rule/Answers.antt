use Rattle.queue.proofs.Chains.{counted-idle}
use borrow.Author.Rules.{rules}
use Rattle.queue.proofs.heads.with_rule.Goals as goal

pub returns-then-not-fires : goal.returns-then-not-fires
returns-then-not-fires c = counted-idle _ _ _ _ _ c.fires.ensures (search rules)
