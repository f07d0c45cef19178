use mathlib.Core.Path.{refl}
use Rattle.book.specs.Counts.{shape_from}
use Rattle.book.proofs.shape_from.Goals as goal

pub returns : goal.returns
unfolding shape_from
returns c = refl
