-- The words from lo to hi in the order of numbers: which one comes after a word; and digits of words of 64 sets.
use Rattle.std.proofs.Common.{◌≡◌, ℕ, zero, suc, ◌+◌, ◌-◌, ◌/◌, ◌%◌, ◌^◌, ◌<◌, ◌≤◌, ap, ◌∙◌, ⊎_elim, le_refl, mod-eq_of_lt, arith, shr-shr}
use lib.Pow.{pow-lt}
use lib.Bits.{bit_and, bit_or, bit_xor, xor_add_and, and_comm, or_step, and_step, or_add_and, or_disjoint, or_lt, and_le_r, and_mask, xor_self}
use Rattle.sets.specs.Sets.{bit_of, Within, Apart, without}
use Rattle.sets.proofs.Digits.{bit-and, bit-or, bit-without, bit-mod, bit-lt, lt-or-le}
use Rattle.sets.proofs.Lowest.{bit-half}
use Rattle.sets.proofs.Words.{sub-or, sub-le, minus-off, minus-zero, none-and, single-has}
use Rattle.marking.specs.Marks.{all_ones}

-- ---- halves
half-within : (a b : ℕ) → Within a b → Within (a / 2) (b / 2)
half-within a b f i = let x = bit-half a i in let y = bit-half b i in let z = f (suc i) in omega arith

half-apart : (a b : ℕ) → Apart a b → Apart (a / 2) (b / 2)
half-apart a b f i = let x = bit-half a i in let y = bit-half b i in let z = f (suc i) in omega arith

low-within : (a b : ℕ) → Within a b → a % 2 ≤ b % 2
low-within a b f = let z = f 0 in omega arith

low-apart : (a b : ℕ) → Apart a b → a % 2 + b % 2 ≤ 1
low-apart a b f = let z = f 0 in omega arith

-- What is outside of hi is in no word within hi.
fill-within : (t hi gap : ℕ) → Within t hi → Apart gap hi → Within (bit_and (bit_or t gap) hi) t
fill-within t hi gap f g i =
    let x = bit-and (bit_or t gap) hi i in
    let y = bit-or t gap i in
    let z = g i in
    let a = bit-lt t i in
    let b = bit-lt gap i in
    omega arith

-- If t and v lie from lo to hi and v comes after t, the next such word after t is not past v. By the digits: if both t and gap end in 0, that
-- word is at most the number after t; otherwise the 1 is carried, and it is the same of the halves, and lo's last digit.
next-by : (k t v lo hi gap : ℕ) → v < k → Within lo t → Within t hi → Within lo v → Within v hi → Apart gap hi → t < v
    → bit_or (bit_and (bit_or t gap + 1) hi) lo ≤ v
next-by zero t v lo hi gap h a b c d g l = absurd (omega arith)
next-by (suc k) t v lo hi gap h a b c d g l =
    let o = or_step t gap in
    let p = and_step (bit_or t gap + 1) hi in
    let e : bit_and (bit_or t gap + 1) hi / 2 ≡ bit_and ((bit_or t gap + 1) / 2) (hi / 2) = omega arith in
    let q = rw e at (or_step (bit_and (bit_or t gap + 1) hi) lo) in
    let x = low-within t hi b in
    let y = low-within lo v c in
    let z = low-within v hi d in
    let w = low-apart gap hi g in
    ⊎_elim
    (λ (even : bit_or t gap % 2 < 1).
    let f : (bit_or t gap + 1) / 2 ≡ bit_or (t / 2) (gap / 2) = omega arith in
    let r = rw f at q in
    let s = sub-le (bit_or (bit_and (bit_or (t / 2) (gap / 2)) (hi / 2)) (lo / 2)) (t / 2) (sub-or _ (lo / 2) (t / 2) (fill-within (t / 2) (hi / 2) (gap / 2) (half-within t hi b) (half-apart gap hi g)) (half-within lo t a)) in
    omega arith)
    (λ (odd : 1 ≤ bit_or t gap % 2).
    let f : (bit_or t gap + 1) / 2 ≡ bit_or (t / 2) (gap / 2) + 1 = omega arith in
    let r = rw f at q in
    let s = next-by k (t / 2) (v / 2) (lo / 2) (hi / 2) (gap / 2) (omega arith) (half-within lo t a) (half-within t hi b) (half-within lo v c) (half-within v hi d) (half-apart gap hi g) (omega arith) in
    omega arith)
    (lt-or-le (bit_or t gap % 2) 1)

-- ---- the words within hi after t, which is one of them; gap is what is outside of hi
module _ (hi gap : ℕ) (off : Apart gap hi) where
  pub next-in : (t v lo : ℕ) → Within lo t → Within t hi → Within lo v → Within v hi → t < v → bit_or (bit_and (bit_or t gap + 1) hi) lo ≤ v
  next-in t v lo a b c d = next-by (suc v) t v lo hi gap (omega arith) a b c d off

  filled : (v : ℕ) → Within v hi → bit_or v gap ≡ v + gap
  filled v f = or_disjoint v gap (none-and v gap (λ i. let x = off i in let y = f i in omega arith))

  -- Within hi a word other than hi leaves room for the 1: with all that is outside, hi itself is still a word.
  pub room : (t : ℕ) → gap < 2 ^ 64 → hi < 2 ^ 64 → Within t hi → (t ≡ hi → ⊥) → bit_or t gap + 1 < 2 ^ 64
  room t b h f n =
      let x = filled t f in
      let y = filled hi (λ i. le_refl _) in
      let z = or_lt 64 hi gap h b in
      let l = sub-le t hi f in
      omega arith

  -- The next one comes later: outside of hi the sum has at most gap.
  pub later : (t lo : ℕ) → Within t hi → Within (bit_or t gap + 1) (bit_or (bit_and (bit_or t gap + 1) hi) gap) → t < bit_or (bit_and (bit_or t gap + 1) hi) lo
  later t lo f g =
      let x = filled t f in
      let y = sub-le _ _ g in
      let z = or_add_and (bit_and (bit_or t gap + 1) hi) gap in
      let w = or_add_and (bit_and (bit_or t gap + 1) hi) lo in
      let k = and_le_r (bit_and (bit_or t gap + 1) hi) lo in
      omega arith

-- Every set of w numbers is within the set of all of them, and every word within the word of all ones.
pub within_all : (w t : ℕ) → t < 2 ^ w → Within t (2 ^ w - 1)
within_all w t h = minus-zero t (2 ^ w - 1) (ap (bit_xor t) (and_mask t w ∙ mod-eq_of_lt h) ∙ xor_self t)

pub all-within : (t : ℕ) → t < 2 ^ 64 → Within t all_ones
all-within t h = within_all 64 t h

-- What is outside of hi: the word hi turned over.
abbrev pub outside : ℕ → ℕ
outside hi = all_ones - hi

pub outside-lt : (hi : ℕ) → outside hi < 2 ^ 64
outside-lt hi = omega arith

module _ (hi : ℕ) (fits : hi < 2 ^ 64) where
  outside-is : without all_ones hi ≡ outside hi
  outside-is =
      let e : bit_and all_ones hi ≡ hi = and_comm all_ones hi ∙ and_mask hi 64 ∙ mod-eq_of_lt fits in
      let x = xor_add_and all_ones hi in
      rw e (omega arith)

  pub outside-off : Apart (outside hi) hi
  outside-off = rw (← outside-is) (minus-off all_ones hi)

  -- A word is within what it shares with hi and what is outside of hi.
  pub outside-parts : (u : ℕ) → u < 2 ^ 64 → Within u (bit_or (bit_and u hi) (outside hi))
  outside-parts u h i =
      let a = all-within u h i in
      let b = bit-without all_ones hi i in
      let c = bit-and u hi i in
      let d = rw (← outside-is) at (bit-or (bit_and u hi) (outside hi) i) in
      let p = bit-lt hi i in
      let q = bit-lt all_ones i in
      rw (← outside-is) (omega arith)

-- ---- words of 64 sets
-- The digits of a set past the sixth are those of its word; the first six are those of its number there.
pub bit_word : (x i : ℕ) → bit_of (x / 64) i ≡ bit_of x (6 + i)
bit_word x i = ap (λ (m : ℕ). m % 2) (shr-shr x 6 i)

pub bit-number : (x i : ℕ) → i < 6 → bit_of (x % 64) i ≡ bit_of x i
bit-number x i h = bit-mod x 6 i h

pub words-within : (a b : ℕ) → Within a b → Within (a / 64) (b / 64)
words-within a b f i = rw (bit_word a i, bit_word b i) (f (6 + i))

-- A set contains another if its word and its number there do.
pub within-words : (a b : ℕ) → Within (a / 64) (b / 64) → ((i : ℕ) → i < 6 → bit_of a i ≤ bit_of b i) → Within a b
within-words a b f g i =
    ⊎_elim (λ h. g i h) (λ h. let e : i ≡ 6 + (i - 6) = omega arith in rw e (rw (← bit_word a (i - 6), ← bit_word b (i - 6)) (f (i - 6)))) (lt-or-le i 6)

-- Every number below 64 is in the word of all ones.
pub ones-at : (k : ℕ) → k < 64 → bit_of all_ones k ≡ 1
ones-at k h = single-has k all_ones (all-within (2 ^ k) (pow-lt h))
