use mathlib.Core.Path.{refl}
use Rattle.sets.specs.Pairs.{minus_of}
use Rattle.sets.proofs.minus.Goals as goal

pub returns : goal.returns
unfolding minus_of
returns c = refl
