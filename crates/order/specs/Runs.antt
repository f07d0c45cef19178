-- The lowest run of ones of a set, from which the next set is made.
use Rattle.std.specs.Prelude.{ℕ, ◌+◌, ◌*◌, ◌/◌, ◌%◌, ◌^◌, ◌<◌, ◌≤◌, ◌≡◌}
use Rattle.sets.specs.Sets.{bit_of}

-- The lowest run of ones of the set t stands at the places from a, before b, of x; `carried` is t with the run carried into a one at b.
pub record Run (x t a b carried : ℕ) : Type 0 where
  pub some : a < b
  pub within : b ≤ x
  pub ones : t % 2 ^ b + 2 ^ a ≡ 2 ^ b
  pub ends : bit_of t b ≡ 0
  pub is : carried ≡ (t / 2 ^ b + 1) * 2 ^ b
  pub most : carried ≤ 2 ^ x
