use native.Mathlib.Omega.{arith}
use Rattle.sets.proofs.Digits.{shifted}
use Rattle.order.proofs.place_count.Goals as goal

pub returns : goal.returns
returns c = shifted _ (omega (arith, c.requires))
