use Rattle.std.proofs.Common.{rules}
use Rattle.few.proofs.Sorting.{better-new}
use Rattle.few.proofs.better.Goals as goal

pub returns-then-leads : goal.returns-then-leads
returns-then-leads c = better-new _ _ _ _ _ (search rules) _ c.leads.ensures _ c.follows.ensures c.if-follows.true c.if-leads.true
