-- Numbers and pairs as bytes, least byte first (document 02, request (h)).
use Rattle.std.specs.Prelude.{ℕ, zero, suc, ◌+◌, ◌*◌, ◌/◌, ◌%◌, ◌<◌, Bool, true, List, [], ◌∷◌, ◌++◌, eqb, get_or, take, drop}
use Rattle.logic.specs.Tests.{both}
use Rattle.sets.specs.declared.Pair.{Pair}

-- The numbers of a list are bytes, as those of a slice of bytes are.
abbrev pub AreBytes : List ℕ → Type 0
AreBytes bs = (i : ℕ) → get_or bs i 0 < 256

-- ---- written
-- The m bytes of a number, least byte first.
unfoldable pub digits : ℕ → ℕ → List ℕ
digits zero v = []
digits (suc m) v = v % 256 ∷ digits m (v / 256)

-- Taken, held and denied, 8 bytes each.
unfoldable pub pair_bytes : Pair → List ℕ
pair_bytes p = digits 8 p.taken ++ (digits 8 p.held ++ digits 8 p.denied)

-- The 32 bytes of an entry: the name, then the pair.
unfoldable pub entry_row : List ℕ → Pair → List ℕ
entry_row n p = n ++ pair_bytes p

-- ---- read
-- The number of some bytes.
unfoldable pub word_of : List ℕ → ℕ
word_of [] = 0
word_of (b ∷ bs) = b + word_of bs * 256

-- The pair of the first 24 bytes.
unfoldable pub pair_of : List ℕ → Pair
pair_of bs = record { taken = word_of (take 8 bs); held = word_of (take 8 (drop 8 bs)); denied = word_of (take 8 (drop 16 bs)) }

-- Zeros only.
unfoldable pub zeros : List ℕ → Bool
zeros [] = true
zeros (b ∷ bs) = both (eqb b 0) (zeros bs)
