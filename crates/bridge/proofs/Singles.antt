-- Sets of one number by digits, and what a joined pair is within or apart from.
-- From the laws of sets on words (sets, Words) and on pairs (sets, Pairs).
use mathlib.Core.Path.{◌≡◌, refl, ◌∙◌}
use mathlib.Core.Logic.{◌↔◌, ⊎_elim}
use Prim.Native.Nat.{ℕ, ◌+◌, ◌^◌, ◌≤◌}
use native.Mathlib.Omega.{arith}
use lib.Bits.{bit_or}
use borrow.Author.Tests.{eqb-true, eq-eqb}
use Rattle.sets.specs.declared.Pair.{Pair}
use Rattle.sets.specs.Sets.{bit_of, Within, Apart}
use Rattle.sets.specs.Pairs.{Sub, Off, join_of}
use Rattle.sets.proofs.Digits.{bit-lt, bit-or, bit-single, by_digits}
use Rattle.sets.proofs.Words.{single}
use Rattle.sets.proofs.Pairs.{sub_refl, sub_trans, join-sub, join-l, join-r, off-sub}

-- A set that has the digit is not apart from the set of that digit alone; it contains it.
pub single-off : (k v : ℕ) → Apart (2 ^ k) v → bit_of v k ≡ 1 → ⊥
single-off k v f e = let o = eqb-true (bit_of (2 ^ k) k) 1 (bit-single k k ∙ eq-eqb k k refl) in let l = f k in omega arith

pub single_of : (k v : ℕ) → bit_of v k ≡ 1 → Within (2 ^ k) v
single_of k v e = ⊎_elim (λ (f : Within (2 ^ k) v). f) (λ (f : Apart (2 ^ k) v). absurd (single-off k v f e)) (single k v)

-- Sets with no digit in common are apart.
pub apart_of : (a b : ℕ) → ((k : ℕ) → bit_of a k ≡ 1 → bit_of b k ≡ 1 → ⊥) → Apart a b
apart_of a b f k =
    by_digits (λ x y. (x ≡ 1 → y ≡ 1 → ⊥) → x + y ≤ 1) (λ g. omega arith) (λ g. omega arith) (λ g. omega arith) (λ g. absurd (g refl refl))
    (bit_of a k) (bit_of b k) (bit-lt a k) (bit-lt b k) (f k)

-- A joined pair is within a pair, or apart from it, where both parts are.
pub join-within : (c a b : Pair) → Sub (join_of a b) c ↔ (Sub a c × Sub b c)
join-within c a b = (λ f. (sub_trans (join-l a b) f, sub_trans (join-r a b) f), λ h. join-sub h.0 h.1)

or_off : (a b t : ℕ) → Apart a t → Apart b t → Apart (bit_or a b) t
or_off a b t f g i = omega (arith, bit-or a b i, f i, g i)

pub join_apart : (v a b : Pair) → Off (join_of a b) v ↔ (Off a v × Off b v)
unfolding join_of
join_apart v a b = (
  λ f. (off-sub (join-l a b) (sub_refl v) f, off-sub (join-r a b) (sub_refl v) f),
  λ h. record {
    held = or_off _ _ _ h.0.held h.1.held;
    denied = or_off _ _ _ h.0.denied h.1.denied;
    taken = or_off _ _ _ h.0.taken h.1.taken;
  },
)
