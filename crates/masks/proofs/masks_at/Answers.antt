use mathlib.Core.Path.{refl}
use Rattle.masks.specs.Views.{masks_at}
use Rattle.masks.proofs.masks_at.Goals as goal

pub returns : goal.returns
unfolding masks_at
returns c = rw (c.of_statements.ensures, c.of_statements-2.ensures) refl
