use mathlib.Core.Path.{refl}
use Rattle.probe.proofs.Attempts.{shave-more}
use Rattle.ranges.proofs.Ranges.{refuted-none}
use Rattle.ranges.proofs.barren.Goals as goal

pub returns : goal.returns
returns c = refuted-none _ _ _ _ _ _ _ _ _ refl (shave-more c.narrowed-rest.ensures c.shaved-shaved.ensures) c.within.ensures
