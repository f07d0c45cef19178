use Rattle.std.proofs.Common.{rules}
use Rattle.few.proofs.Sorting.{leads-sooner}
use Rattle.few.proofs.leads.Goals as goal

pub returns-else-k-b : goal.returns-else-k-b
returns-else-k-b c = rw c.in-Some.is (leads-sooner _ _ _ (search rules) _ c.if-k-b.false _ c.sooner_at.ensures)
