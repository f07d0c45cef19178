-- How the set at a place is worked out, from how many sets there are of each size (document 02, (b)). Nothing is to be believed of it:
-- `order-rule` in proofs/Rule.antt says that it meets the rule of Order.antt, for any number w of exceptions up to 64.
use Rattle.std.specs.Prelude.{ℕ, zero, suc, ◌+◌, ◌-◌, ◌*◌, ◌^◌, ◌<◌, ◌≡◌, true, false, ltb}
use Rattle.sets.specs.Sets.{bit_of, size_to, size}

-- How many sets of n of the numbers 1 to w there are: those without w, and those with it.
unfoldable pub count : ℕ → ℕ → ℕ
count w zero = 1
count zero (suc n) = 0
count (suc w) (suc n) = count w (suc n) + count w n

-- How many sets of fewer than n of them there are.
unfoldable pub count_below : ℕ → ℕ → ℕ
count_below w zero = 0
count_below w (suc n) = count_below w n + count w n

-- The set at place k among the sets of n of them, the smaller number first: those without w, then those with it.
unfoldable pub of_size : ℕ → ℕ → ℕ → ℕ
of_size zero n k = 0
of_size (suc w) zero k = of_size w zero k
of_size (suc w) (suc n) k = elim (ltb k (count w (suc n))) [ true ↦ of_size w (suc n) k | false ↦ 2 ^ w + of_size w n (k - count w (suc n)) ]

-- The set at place k among the sets of n or more of them, those of fewer first; d sizes are tried.
unfoldable pub from_size : ℕ → ℕ → ℕ → ℕ → ℕ
from_size w zero n k = 0
from_size w (suc d) n k = elim (ltb k (count w n)) [ true ↦ of_size w n k | false ↦ from_size w d (suc n) (k - count w n) ]

-- The set of w exceptions at a place of the order.
unfoldable pub set_at : ℕ → ℕ → ℕ
set_at w place = from_size w (suc w) 0 place

-- The place of v among the sets of its size: each of its numbers stands after the sets of as many numbers that are all smaller.
unfoldable pub place_in_size : ℕ → ℕ → ℕ
place_in_size zero v = 0
place_in_size (suc w) v = place_in_size w v + bit_of v w * count w (size_to (suc w) v)

-- The place of v in the order: after the sets of fewer numbers.
unfoldable pub place_of : ℕ → ℕ → ℕ
place_of w v = count_below w (size_to w v) + place_in_size w v

-- The set r is the next one after t in the order of the sets of w exceptions. After the last set there is none, and r may be anything.
pub record NextSet (w t r : ℕ) : Type 0 where
  pub next : (k : ℕ) → k + 1 < 2 ^ w → set_at w k ≡ t → set_at w (k + 1) ≡ r

-- The c places of f have each set of n of the numbers 1 to w once, the smaller number first: there are c such sets.
pub record AllOfSize (w n c : ℕ) (f : ℕ → ℕ) : Type 0 where
  pub sets : (k : ℕ) → k < c → (f k < 2 ^ w) × (size (f k) ≡ n)
  pub present : (v : ℕ) → v < 2 ^ w → size v ≡ n → (k : ℕ) × (k < c) × (f k ≡ v)
  pub rises : (j k : ℕ) → j < k → k < c → f j < f k

-- The most exceptions that the functions of this crate serve: no product of counts leaves its word.
abbrev pub widest : ℕ
widest = 32
