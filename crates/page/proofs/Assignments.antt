-- A value given to a statement is the value there, changes no other statement and keeps a pair lawful.
-- By the members of the two sets: each loses the statement and has it again where the value says so.
use Rattle.std.proofs.Common.{◌≡◌, ℕ, zero, suc, ◌+◌, ◌-◌, ◌^◌, ◌<◌, ◌≤◌, Bool, true, false, not, eqb, refl, ◌∙◌, arith, pow_pos, eq-eqb, ne_eqb}
use lib.Bits.{bit_or, or_lt, or_zero_r, and_zero_r, xor_zero_r}
use lib.Pow.{pow-lt}
use Rattle.logic.specs.Tests.{both, either}
use Rattle.sets.specs.declared.Pair.{Pair}
use Rattle.sets.specs.Sets.{member, bit_of, Apart, without}
use Rattle.sets.specs.Pairs.{join_of, minus_of}
use Rattle.sets.proofs.Digits.{bit-or, bit-without, bit-lt, bit-zero}
use Rattle.sets.proofs.Words.{sub-le, minus-sub, member-or, member-without, member-single, member-empty, same_place, apart-separate, separate-apart}
use Rattle.meaning.specs.Literals.{is_in}
use Rattle.meaning.specs.Books.{Book, Lawful}
use Rattle.meaning.specs.Order.{value_of, value}
use Rattle.page.specs.Orders.{about, said, given}
use Rattle.page.proofs.General.{both_true, both_false, either-false}

-- ---- one set, without statement i and with x
module _ (a x i j : ℕ) (hi : 0 < i) (hj : 0 < j) where
  side : member j (bit_or (without a (2 ^ (i - 1))) x) ≡ either (both (member j a) (not (eqb i j))) (member j x)
  side = rw (member-or j (without a (2 ^ (i - 1))) x, member-without j a (2 ^ (i - 1)), member-single i j, same_place i j hi hj)

  side-own : i ≡ j → member j (bit_or (without a (2 ^ (i - 1))) x) ≡ member j x
  unfolding either
  side-own e = side ∙ rw (eq-eqb i j e, both_false (member j a))

  side-other : (i ≡ j → ⊥) → member j x ≡ false → member j (bit_or (without a (2 ^ (i - 1))) x) ≡ member j a
  side-other n e = side ∙ rw (ne_eqb i j n, e, both_true (member j a)) (either-false (member j a))

-- ---- the pair
said-taken : (i w : ℕ) → (said i w).taken ≡ 0
unfolding said
said-taken i zero = refl
said-taken i (suc zero) = refl
said-taken i (suc (suc w)) = refl

pub given-taken : (p : Pair) (i w : ℕ) → (given p i w).taken ≡ p.taken
unfolding given join_of minus_of about
given-taken p i w = rw (said-taken i w, or_zero_r, and_zero_r p.taken, xor_zero_r p.taken)

-- No value says anything of another statement.
said-other : (i w j : ℕ) → 0 < i → 0 < j → (i ≡ j → ⊥) → (member j (said i w).held ≡ false) × (member j (said i w).denied ≡ false)
unfolding said
said-other i w j hi hj n = go w
  where
    other : member j (2 ^ (i - 1)) ≡ false
    other = member-single i j ∙ same_place i j hi hj ∙ ne_eqb i j n

    go : (w : ℕ) → (member j (said i w).held ≡ false) × (member j (said i w).denied ≡ false)
    go zero = (member-empty j, member-empty j)
    go (suc zero) = (other, member-empty j)
    go (suc (suc w)) = (member-empty j, other)

module _ (p : Pair) (i w : ℕ) (hi : 0 < i) where
  pub given-other : (j : ℕ) → 0 < j → (i ≡ j → ⊥) → value (given p i w) j ≡ value p j
  unfolding value given join_of minus_of about
  given-other j hj n =
      let s = said-other i w j hi hj n in
      rw (side-other p.held (said i w).held i j hi hj n s.0, side-other p.denied (said i w).denied i j hi hj n s.1)

  given-value : value (given p i w) i ≡ value_of (member i (said i w).held) (member i (said i w).denied)
  unfolding value given join_of minus_of about
  given-value = rw (side-own p.held (said i w).held i i hi hi refl, side-own p.denied (said i w).denied i i hi hi refl)

  pub given-own : w ≤ 2 → value (given p i w) i ≡ w
  unfolding said value_of
  given-own h = given-value ∙ go w h
    where
      own : member i (2 ^ (i - 1)) ≡ true
      own = member-single i i ∙ eq-eqb (i - 1) (i - 1) refl

      go : (w : ℕ) → w ≤ 2 → value_of (member i (said i w).held) (member i (said i w).denied) ≡ w
      go zero h = rw (member-empty i)
      go (suc zero) h = rw own
      go (suc (suc zero)) h = rw (own, member-empty i)
      go (suc (suc (suc w))) h = absurd (omega arith)

pub value-most : (p : Pair) (i : ℕ) → value p i ≤ 2
unfolding value value_of
value-most p i = go (member i p.held) (member i p.denied)
  where
    go : (x y : Bool) → value_of x y ≤ 2
    go true y = omega arith
    go false true = omega arith
    go false false = omega arith

-- ---- lawful
-- A set of the first n statements stays one.
side-lt : (n a m x : ℕ) → a < 2 ^ n → x < 2 ^ n → bit_or (without a m) x < 2 ^ n
side-lt n a m x ha hx = or_lt n (without a m) x (omega (arith, sub-le (without a m) a (minus-sub a m))) hx

said-lt : (n i w : ℕ) → 0 < i → i ≤ n → ((said i w).held < 2 ^ n) × ((said i w).denied < 2 ^ n)
unfolding said
said-lt n i zero hi hn = (pow_pos n, pow_pos n)
said-lt n i (suc zero) hi hn = (pow-lt {i = i - 1} {j = n} (omega arith), pow_pos n)
said-lt n i (suc (suc w)) hi hn = (pow_pos n, pow-lt {i = i - 1} {j = n} (omega arith))

-- Sets apart stay so where statement i is taken out of both and put into one of them at most.
sides_apart : (a b m x y : ℕ) → Apart a b → ((k : ℕ) → bit_of x k + bit_of y k ≤ bit_of m k) → Apart (bit_or (without a m) x) (bit_or (without b m) y)
sides_apart a b m x y f g k =
    omega (arith, bit-or (without a m) x k, bit-or (without b m) y k, bit-without a m k, bit-without b m k, f k, g k, bit-lt a k, bit-lt b k, bit-lt m k)

said-about : (i w k : ℕ) → bit_of (said i w).held k + bit_of (said i w).denied k ≤ bit_of (2 ^ (i - 1)) k
unfolding said
said-about i zero k = omega (arith, bit-zero k)
said-about i (suc zero) k = omega (arith, bit-zero k)
said-about i (suc (suc w)) k = omega (arith, bit-zero k)

-- A pair of the first n statements stays one.
given_below : (n : ℕ) (p : Pair) (i w : ℕ) → 0 < i → i ≤ n → (p.held < 2 ^ n) × (p.denied < 2 ^ n) → ((given p i w).held < 2 ^ n) × ((given p i w).denied < 2 ^ n)
unfolding given join_of minus_of about
given_below n p i w hi hn l =
    let s = said-lt n i w hi hn in
    (side-lt n p.held (2 ^ (i - 1)) (said i w).held l.0 s.0, side-lt n p.denied (2 ^ (i - 1)) (said i w).denied l.1 s.1)

pub given-lawful : (b : Book) (p : Pair) (i w : ℕ) → 0 < i → i ≤ b.statements → Lawful b p → Lawful b (given p i w)
unfolding given join_of minus_of about is_in
given-lawful b p i w hi hn l =
    let s = given_below b.statements p i w hi hn (l.held, l.denied) in
    record {
      exceptions = rw (given-taken p i w) l.exceptions;
      held = s.0;
      denied = s.1;
      apart = apart-separate _ _ (sides_apart p.held p.denied (2 ^ (i - 1)) (said i w).held (said i w).denied (separate-apart p.held p.denied l.apart) (said-about i w));
    }
