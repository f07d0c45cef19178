use mathlib.Core.Path.{refl}
use Rattle.sets.specs.Pairs.{meet_of}
use Rattle.sets.proofs.meet.Goals as goal

pub returns : goal.returns
unfolding meet_of
returns c = refl
