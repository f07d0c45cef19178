use mathlib.Core.Path.{refl}
use Rattle.bounds.specs.Sound.{with_sets}
use Rattle.bounds.proofs.with_sets.Goals as goal

pub returns : goal.returns
unfolding with_sets
returns c = refl
