-- Tests that compute: both of two, the first so many numbers, a test of each number below a bound or of each pair of such numbers.
-- A test of all, computed once, gives the fact at each: by induction on the bound.
use mathlib.Core.Path.{◌≡◌, refl}
use mathlib.Core.Bool.{Bool, true, false, not, ◌&&◌, ◌||◌}
use Prim.Native.Nat.{ℕ, zero, suc, ◌<◌}
use native.Mathlib.Nat.{not-suc-le-zero}
use native.Mathlib.Omega.{arith}
use lib.Dec.{eqb}
use borrow.Author.Tests.{eqb-true, eqb-false}
use Rattle.logic.specs.Tests.{both, either}
use Rattle.logic.proofs.Decide.{clash}

pub both_left : (a b : Bool) → both a b ≡ true → a ≡ true
unfolding both
both_left true b e = refl
both_left false b e = e

pub both_right : (a b : Bool) → both a b ≡ true → b ≡ true
unfolding both
both_right true b e = e
both_right false b e = absurd (clash e)

pub either_true : (b : Bool) → either b true ≡ true
unfolding either
either_true true = refl
either_true false = refl

-- The program's operators on tests are these.
pub and_both : (a b : Bool) → a && b ≡ both a b
unfolding both
and_both true b = refl
and_both false b = refl

pub or-either : (a b : Bool) → a || b ≡ either a b
unfolding either
or-either true b = refl
or-either false b = refl

-- The same answer, as a test.
abbrev pub agree : Bool → Bool → Bool
agree true b = b
agree false b = not b

pub agreed : (a b : Bool) → agree a b ≡ true → a ≡ b
agreed true true e = refl
agreed true false e = absurd (clash e)
agreed false true e = absurd (clash e)
agreed false false e = refl

-- Every number below k passes.
abbrev pub all : (ℕ → Bool) → ℕ → Bool
all f zero = true
all f (suc k) = elim (f k) [ true ↦ all f k | false ↦ false ]

all-step : (f : ℕ → Bool) (k i : ℕ) (b : Bool) → f k ≡ b → (all f k ≡ true → i < k → f i ≡ true) → elim b [ true ↦ all f k | false ↦ false ] ≡ true → i < suc k → f i ≡ true
all-step f k i false p ih e h = absurd (clash e)
all-step f k i true p ih e h = near (eqb i k) refl
  where
    near : (c : Bool) → eqb i k ≡ c → f i ≡ true
    near true q = rw (eqb-true i k q) p
    near false q = ih e (omega (arith, eqb-false i k q))

pub all-at : (f : ℕ → Bool) (k i : ℕ) → all f k ≡ true → i < k → f i ≡ true
all-at f zero i e h = absurd (not-suc-le-zero h)
all-at f (suc k) i e h = all-step f k i (f k) refl (all-at f k i) e h

-- Every pair of numbers, the one below m, the other below k, passes.
pub pairs-at : (f : ℕ → ℕ → Bool) (m k i j : ℕ) → all (λ (x : ℕ). all (f x) k) m ≡ true → i < m → j < k → f i j ≡ true
pairs-at f m k i j e h g = all-at (f i) k j (all-at (λ (x : ℕ). all (f x) k) m i e h) g
