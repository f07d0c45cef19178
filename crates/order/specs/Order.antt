-- The order of the sets of taken exceptions (document 01, 'The order of pairs'), for any number w of exceptions up to 64.
use Rattle.std.specs.Prelude.{ℕ, ◌^◌, ◌<◌, ◌≡◌}
use Rattle.sets.specs.Sets.{size}

-- The set a comes before the set b.
pub data Earlier (a b : ℕ) : Type 0 where
  -- Fewer exceptions taken come first,
  fewer : size a < size b → Earlier a b
  -- then the smaller taken number.
  smaller : size a ≡ size b → a < b → Earlier a b

-- The rule: f gives the set at each place, counted from 0. Every set is present, and a later place has a later set, so each is present once.
-- The rule says all: two such f agree at every place (`one-order` in proofs/Places.antt).
pub record Ordered (w : ℕ) (f : ℕ → ℕ) : Type 0 where
  pub below : (k : ℕ) → k < 2 ^ w → f k < 2 ^ w
  pub present : (v : ℕ) → v < 2 ^ w → (k : ℕ) × (k < 2 ^ w) × (f k ≡ v)
  pub rises : (j k : ℕ) → j < k → k < 2 ^ w → Earlier (f j) (f k)
