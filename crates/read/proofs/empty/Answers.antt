use mathlib.Core.Path.{refl}
use Rattle.text.specs.Reading.{start}
use Rattle.read.proofs.empty.Goals as goal

pub returns : goal.returns
unfolding start
returns c = refl
