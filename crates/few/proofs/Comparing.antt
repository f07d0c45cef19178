-- Of two coherent pairs with the same exceptions the lowest place at which their words differ decides which comes first.
use mathlib.Core.Path.{◌≡◌, refl, sym, ap, ◌∙◌}
use mathlib.Core.Bool.{Bool, false}
use mathlib.Core.Logic.{inl, inr, ⊎_elim}
use Prim.Native.Nat.{ℕ, zero, suc, ◌+◌, ◌^◌, ◌<◌, ◌≤◌, max}
use native.Mathlib.Nat.{eq-or-lt_of_le}
use native.Mathlib.Numerals.{add-one}
use native.Mathlib.Omega.{arith}
use lib.Bits.{bit_or, bit_xor, differ}
use lib.Dec.{eqb, ltb}
use borrow.Author.Tests.{ltb-true, ltb-false}
use Rattle.logic.proofs.Decide.{clash}
use Rattle.sets.specs.declared.Pair.{Pair}
use Rattle.sets.specs.Sets.{bit_of, member, Apart, Lowest}
use Rattle.sets.proofs.Digits.{by_digits, bit-lt, bit-or, bit-xor, ext}
use Rattle.sets.proofs.Words.{member-suc, apart-separate}
use Rattle.sets.proofs.Pairs.{pair}
use Rattle.meaning.specs.Order.{value, differs}
use Rattle.meaning.proofs.Ordered.{held-digit, denied-digit}
use Rattle.few.specs.Few.{Sooner}

-- ---- digits
max-zero : (x y : ℕ) → x < 2 → y < 2 → max x y ≡ 0 → (x ≡ 0) × (y ≡ 0)
max-zero = by_digits (λ x y. max x y ≡ 0 → (x ≡ 0) × (y ≡ 0)) (λ e. (refl, refl)) (λ e. absurd (omega arith)) (λ e. absurd (omega arith)) (λ e. absurd (omega arith))

differ-zero : (x y : ℕ) → x < 2 → y < 2 → differ x y ≡ 0 → x ≡ y
differ-zero = by_digits (λ x y. differ x y ≡ 0 → x ≡ y) (λ e. refl) (λ e. absurd (omega arith)) (λ e. absurd (omega arith)) (λ e. refl)

differ_same : (x : ℕ) → x < 2 → differ x x ≡ 0
differ_same zero h = refl
differ_same (suc zero) h = refl
differ_same (suc (suc x)) h = absurd (omega arith)

digit-same : (x y : ℕ) → x < 2 → y < 2 → eqb x 1 ≡ eqb y 1 → x ≡ y
digit-same = by_digits (λ x y. eqb x 1 ≡ eqb y 1 → x ≡ y) (λ e. refl) (λ e. absurd (clash e)) (λ e. absurd (clash (sym e))) (λ e. refl)

-- A digit of two words: they agree where their difference has none there, and where they have the same member.
xor_same : (x y j : ℕ) → bit_of (bit_xor x y) j ≡ 0 → bit_of x j ≡ bit_of y j
xor_same x y j e = differ-zero _ _ (bit-lt x j) (bit-lt y j) (sym (bit-xor x y j) ∙ e)

same-xor : (x y j : ℕ) → bit_of x j ≡ bit_of y j → bit_of (bit_xor x y) j ≡ 0
same-xor x y j e = bit-xor x y j ∙ ap (λ (u : ℕ). differ u (bit_of y j)) e ∙ differ_same (bit_of y j) (bit-lt y j)

member-same : (x y j : ℕ) → member (suc j) x ≡ member (suc j) y → bit_of x j ≡ bit_of y j
member-same x y j e = digit-same _ _ (bit-lt x j) (bit-lt y j) (sym (member-suc j x) ∙ e ∙ member-suc j y)

module _ (a b : Pair) where
  -- Where the words of the two pairs differ.
  abbrev pub apart_at : ℕ
  apart_at = bit_or (bit_xor a.held b.held) (bit_xor a.denied b.denied)

  agree : (j : ℕ) → bit_of apart_at j ≡ 0 → (bit_of a.held j ≡ bit_of b.held j) × (bit_of a.denied j ≡ bit_of b.denied j)
  agree j e =
      let m = max-zero (bit_of (bit_xor a.held b.held) j) (bit_of (bit_xor a.denied b.denied) j) (bit-lt _ j) (bit-lt _ j) (sym (bit-or _ _ j) ∙ e) in
      (xor_same a.held b.held j m.0, xor_same a.denied b.denied j m.1)

  disagree : (j : ℕ) → bit_of apart_at j ≡ 1 → bit_of a.held j ≡ bit_of b.held j → bit_of a.denied j ≡ bit_of b.denied j → ⊥
  disagree j e h d =
      let z : bit_of apart_at j ≡ 0 = bit-or (bit_xor a.held b.held) (bit_xor a.denied b.denied) j ∙ rw (same-xor a.held b.held j h, same-xor a.denied b.denied j d) refl in
      omega (arith, e, z)

  -- ---- values
  value-agree : (j : ℕ) → bit_of apart_at j ≡ 0 → value a (suc j) ≡ value b (suc j)
  unfolding value
  value-agree j e = let h = agree j e in rw (member-suc j a.held, member-suc j b.held, member-suc j a.denied, member-suc j b.denied, h.0, h.1)

  value-disagree : (j : ℕ) → bit_of apart_at j ≡ 1 → Apart a.held a.denied → Apart b.held b.denied → value a (suc j) ≡ value b (suc j) → ⊥
  value-disagree j e x y v =
      disagree j e (member-same a.held b.held j (held-digit a b (suc j) v))
      (member-same a.denied b.denied j (denied-digit a b (suc j) (apart-separate a.held a.denied x (suc j)) (apart-separate b.held b.denied y (suc j)) v))

  module _ (i : ℕ) (l : Lowest apart_at i) where
    below : (j : ℕ) → 0 < j → j < i + 1 → value a j ≡ value b j
    below zero z h = absurd (omega arith)
    below (suc j) z h = value-agree j (l.below j (omega arith))

    -- The words do not differ.
    pub sooner-none : a.held < 2 ^ 64 → a.denied < 2 ^ 64 → b.held < 2 ^ 64 → b.denied < 2 ^ 64 → 64 ≤ i → Sooner a b false
    sooner-none ah ad bh bd g = record {
      yes = λ e. absurd (clash e);
      no = λ e t x y. inl (pair a b (ext 64 a.held b.held ah bh (λ j h. (agree j (l.below j (omega arith))).0)) (ext 64 a.denied b.denied ad bd (λ j h. (agree j (l.below j (omega arith))).1)) t);
    }

    -- They differ at place i.
    pub sooner-some : i < 64 → (u w : ℕ) → u ≡ value a (i + 1) → w ≡ value b (i + 1) → Sooner a b (ltb u w)
    sooner-some g u w eu ew = rw (eu, ew) (of (ltb (value a (i + 1)) (value b (i + 1))) refl)
      where
        of : (r : Bool) → r ≡ ltb (value a (i + 1)) (value b (i + 1)) → Sooner a b r
        of r e = record {
          yes = λ f t. differs t (i + 1) (omega arith) below (ltb-true _ _ (sym e ∙ f));
          no = λ f t x y.
              inr (⊎_elim (λ (v : value b (i + 1) ≡ value a (i + 1)). absurd (value-disagree i (l.member g) x y (rw (add-one i) at (sym v))))
              (λ v. differs (sym t) (i + 1) (omega arith) (λ j z h. sym (below j z h)) v) (eq-or-lt_of_le (ltb-false _ _ (sym e ∙ f))));
        }
