use Rattle.std.proofs.Common.{rules}
use Rattle.few.proofs.Sorting.{follows-sooner}
use Rattle.few.proofs.follows.Goals as goal

pub returns-else-k-l : goal.returns-else-k-l
returns-else-k-l c = rw c.in-Some.is (follows-sooner _ _ _ (search rules) _ c.if-k-l.false _ c.sooner_at.ensures)
