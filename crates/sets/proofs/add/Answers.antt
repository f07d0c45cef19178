use mathlib.Core.Path.{ap, ◌∙◌}
use Prim.Native.Nat.{ℕ, ◌-◌}
use native.Mathlib.Omega.{arith}
use lib.Bits.{bit_or}
use Rattle.sets.specs.Sets.{member}
use Rattle.sets.proofs.Digits.{shifted}
use Rattle.sets.proofs.Words.{added}
use Rattle.sets.proofs.add.Goals as goal

pub returns : goal.returns
returns c j h =
    ap (λ (x : ℕ). member j (bit_or c.args.a x)) (shifted (c.args.i - 1) (omega arith))
    ∙ added c.args.i c.args.a j (omega arith) h
