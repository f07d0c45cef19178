-- The usual fields are how their number is written: one or two digits after spaces, with or without a minus, no leading zero and no "-0". By
-- computed tests of all of them.
use mathlib.Core.Path.{◌≡◌, refl, sym, ◌∙◌}
use mathlib.Core.Bool.{Bool, true, false, not, ◌&&◌, ◌||◌}
use Prim.Native.Nat.{ℕ, suc, ◌+◌, ◌-◌, ◌<◌}
use native.Mathlib.Omega.{arith}
use lib.Dec.{eqb, leb}
use borrow.Author.Tests.{eqb-true, eq-eqb, leb-true}
use Rattle.logic.specs.Tests.{both, either, pick}
use Rattle.logic.proofs.Decide.{clash}
use Rattle.logic.proofs.Tests.{both_left, both_right, and_both, all, all-at, pairs-at}
use Rattle.text.specs.Fields.{column_of, in_columns, columns, digit_of, size_of, minus_in, same, is_digit, is_number}

-- ---- all of them, computed
one-test : all (λ (k : ℕ). both (is_number 32 32 32 (48 + k)) (either (eqb k 0) (is_number 32 32 45 (48 + k)))) 10 ≡ true
unfolding column_of in_columns columns digit_of size_of minus_in same both either pick
one-test = refl

two-test : all (λ (j : ℕ). all (λ (k : ℕ). both (is_number 32 32 (49 + j) (48 + k)) (is_number 32 45 (49 + j) (48 + k))) 10) 9 ≡ true
unfolding column_of in_columns columns digit_of size_of minus_in same both either pick
two-test = refl

-- ---- the tests of the code
and_left : (x y : Bool) → x && y ≡ true → x ≡ true
and_left x y e = both_left x y (sym (and_both x y) ∙ e)

and_right : (x y : Bool) → x && y ≡ true → y ≡ true
and_right x y e = both_right x y (sym (and_both x y) ∙ e)

-- A byte from one to another, as a number that is counted from the first.
counted : (low high b : ℕ) → leb low b ≡ true → leb b high ≡ true → (k : ℕ) × (k < suc high - low) × (low + k ≡ b)
counted low high b e f = (b - low, omega (arith, leb-true low b e, leb-true b high f), omega (arith, leb-true low b e))

-- Neither half of a failed test of two holds.
module _ (x y : Bool) (e : not x || not y ≡ false) where
  first_holds : x ≡ true
  first_holds = go x y e
    where
      go : (x y : Bool) → not x || not y ≡ false → x ≡ true
      go true y e = refl
      go false y e = absurd (clash (sym e))

  second_holds : y ≡ true
  second_holds = go x y e
    where
      go : (x y : Bool) → not x || not y ≡ false → y ≡ true
      go x true e = refl
      go true false e = absurd (clash (sym e))
      go false false e = absurd (clash (sym e))

module _ (a b c d : ℕ) (r : Bool) (er : r ≡ is_digit d) (e : not (eqb a 32) || not r ≡ false) where
  space : a ≡ 32
  space = eqb-true a 32 (first_holds (eqb a 32) r e)

  digit : (k : ℕ) × (k < 10) × (48 + k ≡ d)
  unfolding is_digit
  digit =
      let t : both (leb 48 d) (leb d 57) ≡ true = sym er ∙ second_holds (eqb a 32) r e in
      counted 48 57 d (both_left (leb 48 d) (leb d 57) t) (both_right (leb 48 d) (leb d 57) t)

  pub two_digits : leb 49 c && leb c 57 ≡ true → eqb b 32 || eqb b 45 ≡ true → is_number a b c d ≡ true
  two_digits f g =
      let j = counted 49 57 c (and_left (leb 49 c) (leb c 57) f) (and_right (leb 49 c) (leb c 57) f) in
      let t = pairs-at (λ (j k : ℕ). both (is_number 32 32 (49 + j) (48 + k)) (is_number 32 45 (49 + j) (48 + k))) 9 10 j.0 digit.0 two-test j.1 digit.1 in
      let u : both (is_number 32 32 c d) (is_number 32 45 c d) ≡ true = rw (j.2, digit.2) at t in
      rw space (go (eqb b 32) refl (eqb b 45) refl g u)
    where
      go : (x : Bool) → eqb b 32 ≡ x → (y : Bool) → eqb b 45 ≡ y → x || y ≡ true → both (is_number 32 32 c d) (is_number 32 45 c d) ≡ true → is_number 32 b c d ≡ true
      go true p y q g u = rw (eqb-true b 32 p) (both_left (is_number 32 32 c d) (is_number 32 45 c d) u)
      go false p true q g u = rw (eqb-true b 45 q) (both_right (is_number 32 32 c d) (is_number 32 45 c d) u)
      go false p false q g u = absurd (clash g)

  pub one-digit : eqb b 32 && (eqb c 32 || (eqb c 45 && not (eqb d 48))) ≡ true → is_number a b c d ≡ true
  unfolding either
  one-digit f =
      let t = all-at (λ (k : ℕ). both (is_number 32 32 32 (48 + k)) (either (eqb k 0) (is_number 32 32 45 (48 + k)))) 10 digit.0 one-test digit.1 in
      let u : both (is_number 32 32 32 d) (either (eqb digit.0 0) (is_number 32 32 45 d)) ≡ true = rw digit.2 at t in
      rw (space, eqb-true b 32 (and_left (eqb b 32) _ f)) (go (eqb c 32) refl (and_right (eqb b 32) (eqb c 32 || (eqb c 45 && not (eqb d 48))) f) u)
    where
      first : (t : Bool) → eqb digit.0 0 ≡ t → not (eqb d 48) ≡ true → either t (is_number 32 32 45 d) ≡ true → is_number 32 32 45 d ≡ true
      first true p n u = absurd (clash (rw (eq-eqb d 48 (omega (arith, eqb-true digit.0 0 p, digit.2))) at n))
      first false p n u = u

      go : (x : Bool) → eqb c 32 ≡ x → x || (eqb c 45 && not (eqb d 48)) ≡ true → both (is_number 32 32 32 d) (either (eqb digit.0 0) (is_number 32 32 45 d)) ≡ true → is_number 32 32 c d ≡ true
      go true p g u = rw (eqb-true c 32 p) (both_left (is_number 32 32 32 d) _ u)
      go false p g u =
          rw (eqb-true c 45 (and_left (eqb c 45) (not (eqb d 48)) g))
          (first (eqb digit.0 0) refl (and_right (eqb c 45) (not (eqb d 48)) g) (both_right (is_number 32 32 32 d) (either (eqb digit.0 0) (is_number 32 32 45 d)) u))
