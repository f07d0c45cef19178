-- Small signed numbers as the code has them: what is read back from an i32 is the number.
-- By cases on the sign; a number of at most the limit fits an i32.
use mathlib.Core.Path.{◌≡◌}
use mathlib.Core.Bool.{true}
use Prim.Native.Nat.{ℕ, ◌≤◌}
use native.Mathlib.Omega.{arith}
use lib.Dec.{ltb}
use lib.IntN.{ℤ, pos, negsuc, nat_abs}
use mir.Syntax.{w32}
use mir.Val.{to_z, of_z, SFits}
use mir.Facts.{to_z-of_z}
use borrow.Author.Rules.{sfits_of}
use borrow.Author.Tests.{ltb-true}
use Rattle.book.specs.Limits as limit

-- A signed number as a call or a test reads it.
abbrev pub back : ℤ → ℤ
back x = to_z w32 (of_z w32 x)

-- The number names a statement or nothing.
abbrev pub Small : ℤ → Type 0
Small x = nat_abs x ≤ limit.statements

small-fits : (x : ℤ) → Small x → SFits w32 x
small-fits (pos n) h = sfits_of (omega arith)
small-fits (negsuc n) h = sfits_of (omega arith)

pub back-same : (x : ℤ) → Small x → back x ≡ x
back-same x h = to_z-of_z (small-fits x h)

pub back-small : (x : ℤ) → Small x → Small (back x)
back-small x h = rw (back-same x h) h

pub no-neg : (n : ℕ) → ltb n 0 ≡ true → ⊥
no-neg n e = omega (arith, ltb-true n 0 e)
