-- The place of the lowest one of a word: the zeros that trail it.
use mathlib.Core.Path.{◌≡◌, refl, sym, ap, ◌∙◌}
use borrow.Author.Tests.{eqb-true, eqb-false, eq-eqb, ne_eqb}
use Prim.Native.Nat.{ℕ, zero, suc, ◌+◌, ◌/◌, ◌%◌, ◌^◌, ◌<◌, ◌≤◌}
use native.Mathlib.Nat.{div-one, mod-lt, mod-eq_of_lt}
use native.Mathlib.Omega.{arith}
use lib.Count.{count_trailing_zeros, under}
use lib.Dec.{lit<}
use lib.Pow.{shr-shr, pow_pos}
use Rattle.sets.specs.Sets.{bit_of, Lowest, without, Taken}
use Rattle.sets.proofs.Digits.{bit-mod, bit-zero, bit-single, bit-lt, bit-without, ext}
use Rattle.sets.proofs.Words.{minus-sub, sub-le}

-- The digits of half a number.
pub bit-half : (x i : ℕ) → bit_of x (suc i) ≡ bit_of (x / 2) i
bit-half x i = let e : suc i ≡ 1 + i = omega arith in ap (λ (m : ℕ). x / 2 ^ m % 2) e ∙ ap (λ (m : ℕ). m % 2) (sym (shr-shr x 1 i))

-- Of the k lowest places those below the lowest member have none, and if there is one it stands there.
lowest-of : (k x : ℕ) → ((j : ℕ) → j < count_trailing_zeros k x → bit_of x j ≡ 0) × (count_trailing_zeros k x < k → bit_of x (count_trailing_zeros k x) ≡ 1)
unfolding count_trailing_zeros
lowest-of zero x = (λ j h. absurd (omega arith), λ h. absurd (omega arith))
lowest-of (suc k) x = go (x % 2) refl (mod-lt x (lit< tt)) (lowest-of k (x / 2))
  where
    here : bit_of x 0 ≡ x % 2
    here = ap (λ (m : ℕ). m % 2) (div-one x)

    go : (d : ℕ) → x % 2 ≡ d → d < 2 → ((j : ℕ) → j < count_trailing_zeros k (x / 2) → bit_of (x / 2) j ≡ 0) × (count_trailing_zeros k (x / 2) < k → bit_of (x / 2) (count_trailing_zeros k (x / 2)) ≡ 1)
        → ((j : ℕ) → j < under d (count_trailing_zeros k (x / 2)) → bit_of x j ≡ 0) × (under d (count_trailing_zeros k (x / 2)) < suc k → bit_of x (under d (count_trailing_zeros k (x / 2))) ≡ 1)
    go zero e l ih = (below, λ h. bit-half x (count_trailing_zeros k (x / 2)) ∙ ih.1 (omega arith))
      where
        below : (j : ℕ) → j < suc (count_trailing_zeros k (x / 2)) → bit_of x j ≡ 0
        below zero h = here ∙ e
        below (suc j) h = bit-half x j ∙ ih.0 j (omega arith)
    go (suc zero) e l ih = (λ j h. absurd (omega arith), λ h. here ∙ e)
    go (suc (suc d)) e l ih = absurd (omega arith)

pub lowest-is : (x : ℕ) → Lowest x (count_trailing_zeros 64 x)
lowest-is x = let h = lowest-of 64 x in record { below = h.0; member = h.1 }

module _ (x k : ℕ) (l : Lowest x k) where
  -- Below it there are only zeros.
  pub lowest-mod : x % 2 ^ k ≡ 0
  lowest-mod = ext k (x % 2 ^ k) 0 (mod-lt x (pow_pos k)) (pow_pos k) (λ i h. bit-mod x k i h ∙ (l.below i h ∙ sym (bit-zero i)))

  -- A word that is not 0 has one.
  pub lowest-some : 0 < x → x < 2 ^ 64 → k ≤ 64 → k < 64
  lowest-some p h m = let none : k ≡ 64 → ⊥ = λ e. let z = mod-eq_of_lt h in let y = rw e at lowest-mod in omega arith in omega arith

-- ---- a word and its lowest member
pub own-digit : (i : ℕ) → bit_of (2 ^ i) i ≡ 1
own-digit i = eqb-true (bit_of (2 ^ i) i) 1 (bit-single i i ∙ eq-eqb i i refl)

other-digit : (i j : ℕ) → (j ≡ i → ⊥) → bit_of (2 ^ i) j ≡ 0
other-digit i j f = let n = eqb-false (bit_of (2 ^ i) j) 1 (bit-single i j ∙ ne_eqb i j (λ e. f (sym e))) in let l = bit-lt (2 ^ i) j in omega arith

-- A word that is not 0 has a lowest member.
pub low-some : (w i : ℕ) → (w ≡ 0 → ⊥) → w < 2 ^ 64 → i ≤ 64 → Lowest w i → i < 64
low-some w i f h m l = lowest-some w i l (omega arith) h m

module _ (w w' i : ℕ) (e : w' ≡ without w (2 ^ i)) where
  -- Without a member a word is less.
  pub fewer-less : bit_of w i ≡ 1 → w' < w
  fewer-less h =
      let le = sub-le (without w (2 ^ i)) w (minus-sub w (2 ^ i)) in
      let d = bit-without w (2 ^ i) i in
      let o = own-digit i in
      let ne : without w (2 ^ i) ≡ w → ⊥ = λ q. let z = ap (λ (x : ℕ). bit_of x i) q in omega arith in
      rw e (omega arith)

  -- The others stay.
  pub fewer-has : (j : ℕ) → (j ≡ i → ⊥) → bit_of w j ≡ 1 → bit_of w' j ≡ 1
  fewer-has j f h = let d = bit-without w (2 ^ i) j in let o = other-digit i j f in rw e (omega arith)

-- One step along a word's members.
pub taken-less : (s i t : ℕ) → Taken s i t → t < s
taken-less s i t h = fewer-less s t i h.left (h.lowest.member h.small)
