use Rattle.bounds.proofs.Singles.{top-place}
use Rattle.bounds.proofs.top.Goals as goal

pub returns : goal.returns
returns c = rw c.from.ensures (top-place _ _ c.ilog2.ensures.bound c.ilog2.ensures.power_le c.ilog2.ensures.next_power_gt)
