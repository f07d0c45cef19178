-- Pairs with one member.
use Rattle.std.specs.Prelude.{ℕ, zero, suc, ◌^◌, ◌<◌, ◌≡◌}
use Rattle.sets.specs.declared.Pair.{Pair}
use Rattle.sets.specs.Sets.{bit_of}
use Rattle.bounds.specs.declared.Part.{Part}
use Rattle.bounds.specs.declared.Part.TheVariants.{Held, Denied, Taken}
use Rattle.sets.specs.Pairs.{Sub, Off, Atom}

-- The place of a word among the three.
abbrev pub number_of : Part → ℕ
number_of Held = 0
number_of Denied = 1
number_of Taken = 2

-- The three words of a pair by number: 0 held, 1 denied, 2 (and above) taken.
unfoldable pub word_of : ℕ → Pair → ℕ
word_of zero x = x.held
word_of (suc zero) x = x.denied
word_of (suc (suc s)) x = x.taken

-- The pair whose one member stands at place k of word s.
unfoldable pub one_of : ℕ → ℕ → Pair
one_of zero k = record { taken = 0; held = 2 ^ k; denied = 0 }
one_of (suc zero) k = record { taken = 0; held = 0; denied = 2 ^ k }
one_of (suc (suc s)) k = record { taken = 2 ^ k; held = 0; denied = 0 }

-- Place k of the word x has a member.
pub record Place (x k : ℕ) : Type 0 where
  pub small : k < 64
  pub member : bit_of x k ≡ 1

-- The pair m has one member, and it is one of x if x has any.
pub record Picked (x m : Pair) : Type 0 where
  pub atom : Atom m
  pub some : Off m m → ⊥
  pub inside : (Off x x → ⊥) → Sub m x
