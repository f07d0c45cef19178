use mathlib.Core.Path.{refl}
use Rattle.sets.specs.Pairs.{join_of}
use Rattle.sets.proofs.join.Goals as goal

pub returns : goal.returns
unfolding join_of
returns c = refl
