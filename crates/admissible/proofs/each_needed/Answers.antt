use Rattle.std.proofs.Common.{rules}
use Rattle.admissible.proofs.Subsets.{minimal-turn, minimal-won}
use Rattle.admissible.proofs.each_needed.Goals as goal

pub loop-e-preserved : goal.loop-e-preserved
loop-e-preserved c = minimal-turn _ _ _ _ _ c.loop-e.e _ c.minimal_at.ensures c.loop-e.invariant (search rules)

pub returns : goal.returns
returns c = minimal-won _ _ _ _ _ c.loop-e.e c.ranges.taken.fits (search rules) c.loop-e.invariant
