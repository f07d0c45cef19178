-- Sets of numbers. A set is a number, and i is worth 2 ^ (i - 1) in it (document 01, 'The order of pairs'). Numbers begin at 1.
use Rattle.std.specs.Prelude.{ℕ, zero, suc, ◌+◌, ◌-◌, ◌/◌, ◌%◌, ◌^◌, ◌<◌, ◌≤◌, Bool, true, ◌≡◌, eqb, Option, Some, None}
use Rattle.std.specs.Int.Bits.{bit_and, bit_xor}

-- Number i is in the set a.
unfoldable pub member : ℕ → ℕ → Bool
member i a = eqb (a / 2 ^ (i - 1) % 2) 1

-- The set a is contained in b.
abbrev pub Contained : ℕ → ℕ → Type 0
Contained a b = (i : ℕ) → member i a ≡ true → member i b ≡ true

-- The sets a and b have no member in common.
abbrev pub Separate : ℕ → ℕ → Type 0
Separate a b = (i : ℕ) → member i a ≡ true → member i b ≡ true → ⊥

-- The set a is a proper subset of b.
pub record ProperSubset (a b : ℕ) : Type 0 where
  pub contained : Contained a b
  pub different : a ≡ b → ⊥

-- How many of the numbers 1 to k are in a.
unfoldable pub size_to : ℕ → ℕ → ℕ
size_to zero a = 0
size_to (suc k) a = size_to k a + a / 2 ^ k % 2

-- How many numbers are in a, a set of numbers up to 64: its count of ones.
unfoldable pub size : ℕ → ℕ
size a = size_to 64 a

-- What follows is the same by digits, for the laws of words: the digit of number i stands at place i - 1.
abbrev pub bit_of : ℕ → ℕ → ℕ
bit_of a k = a / 2 ^ k % 2

-- Each digit of a is at most that of b; no place has a one in both.
abbrev pub Within : ℕ → ℕ → Type 0
Within a b = (k : ℕ) → bit_of a k ≤ bit_of b k

abbrev pub Apart : ℕ → ℕ → Type 0
Apart a b = (k : ℕ) → bit_of a k + bit_of b k ≤ 1

-- What a has and b has not, by word operations.
abbrev pub without : ℕ → ℕ → ℕ
without a b = bit_xor a (bit_and a b)

-- Place k is that of the lowest one of the word x, 64 if it has none.
pub record Lowest (x k : ℕ) : Type 0 where
  pub below : (j : ℕ) → j < k → bit_of x j ≡ 0
  pub member : k < 64 → bit_of x k ≡ 1

-- Of a word's members the lowest stands at place i, and t is what is left without it.
pub record Taken (s i t : ℕ) : Type 0 where
  pub small : i < 64
  pub lowest : Lowest s i
  pub left : t ≡ without s (2 ^ i)

-- What a step along the members of a word s gives: the place of one of them, or nothing if it has none; t is what is left.
abbrev pub Gives : ℕ → Option ℕ → ℕ → Type 0
Gives s None t = s ≡ 0
Gives s (Some i) t = Taken s i t
