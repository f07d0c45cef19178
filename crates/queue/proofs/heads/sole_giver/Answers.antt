use Rattle.queue.proofs.Turns.{sole-fires}
use borrow.Author.Rules.{rules}
use Rattle.queue.proofs.heads.sole_giver.Goals as goal

pub returns-then-within : goal.returns-then-within
returns-then-within c = sole-fires _ _ _ _ _ _ _ _ c.within.ensures (search rules) c.minus.ensures c.join.ensures c.out.ensures c.into.ensures
