use borrow.Author.Rules.{rules}
use Rattle.queue.proofs.Chains.{weighed-without, weighed-sure}
use Rattle.queue.proofs.heads.weighed.Goals as goal

pub returns-then-not-within : goal.returns-then-not-within
returns-then-not-within c = weighed-without _ _ _ _ _ _ c.within.ensures (search rules)

pub returns-then-not-apart : goal.returns-then-not-apart
returns-then-not-apart c = weighed-sure _ _ _ _ _ _ _ c.minus.ensures c.apart.ensures (search rules)
