use mathlib.Core.Path.{ap}
use Prim.Native.Nat.{ℕ, ◌+◌, ◌/◌}
use native.Mathlib.Omega.{arith}
use Rattle.sets.proofs.Digits.{shifted}
use Rattle.walk.proofs.words_for.Goals as goal

pub returns : goal.returns
returns c = ap (λ (m : ℕ). m / 64 + 1) (shifted _ (omega (arith, c.requires.1)))
