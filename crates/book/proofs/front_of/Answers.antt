use mathlib.Core.Path.{refl}
use Rattle.book.specs.Counts.{front_of}
use Rattle.book.proofs.front_of.Goals as goal

pub returns : goal.returns
unfolding front_of
returns c = refl
