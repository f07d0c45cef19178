use mathlib.Core.Path.{refl}
use Rattle.sets.proofs.Digits.{shifted}
use Rattle.sets.proofs.cleared.Goals as goal

pub returns : goal.returns
returns c = rw (shifted _ c.requires) refl
