use mathlib.Core.Path.{refl}
use Rattle.ranges.proofs.Ranges.{refuted-none}
use Rattle.ranges.proofs.refuted.Goals as goal

pub returns : goal.returns
returns c = refuted-none _ _ _ _ _ _ _ _ _ refl c.narrowed-rest.ensures c.within.ensures
