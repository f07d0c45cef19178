-- Pairs (S, T) as three sets: the statements that S holds, those that it denies, the exceptions in T.
use Rattle.std.specs.Prelude.{ℕ, List, [], ◌∷◌, ◌⊎◌}
use Rattle.std.specs.Int.Bits.{bit_and, bit_or}
use Rattle.sets.specs.declared.Pair.{Pair}
use Rattle.sets.specs.Sets.{Within, Apart, without}

-- Each of the three sets of a is within that of b.
pub record Sub (a b : Pair) : Type 0 where
  pub held : Within a.held b.held
  pub denied : Within a.denied b.denied
  pub taken : Within a.taken b.taken

-- Each of the three sets of a has nothing in common with that of b.
pub record Off (a b : Pair) : Type 0 where
  pub held : Apart a.held b.held
  pub denied : Apart a.denied b.denied
  pub taken : Apart a.taken b.taken

-- What is in a or in b.
unfoldable pub join_of : Pair → Pair → Pair
join_of a b = record { taken = bit_or a.taken b.taken; held = bit_or a.held b.held; denied = bit_or a.denied b.denied }

-- What is in a and in b.
unfoldable pub meet_of : Pair → Pair → Pair
meet_of a b = record { taken = bit_and a.taken b.taken; held = bit_and a.held b.held; denied = bit_and a.denied b.denied }

-- What is in a and not in b.
unfoldable pub minus_of : Pair → Pair → Pair
minus_of a b = record { taken = without a.taken b.taken; held = without a.held b.held; denied = without a.denied b.denied }

-- Every pair has m whole, or has nothing of it.
abbrev pub Atom : Pair → Type 0
Atom m = (v : Pair) → (Sub m v) ⊎ (Off m v)

-- Pairs as numbers, three each: taken, held, denied.
unfoldable pub flat : List Pair → List ℕ
flat [] = []
flat (p ∷ ps) = p.taken ∷ p.held ∷ p.denied ∷ flat ps
