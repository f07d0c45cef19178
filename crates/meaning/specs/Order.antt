-- The order of pairs, and the list of all resolutions later than a point.
use Rattle.std.specs.Prelude.{ℕ, ◌<◌, Bool, true, false, ◌≡◌, List, [], ◌∷◌}
use Rattle.logic.specs.Lists.{Among, Every}
use Rattle.sets.specs.Sets.{member, size}
use Rattle.sets.specs.declared.Pair.{Pair}
use Rattle.meaning.specs.Books.{Book, Lawful}
use Rattle.meaning.specs.Resolutions.{Resolution}

-- Held or not, denied or not: 0 absent, 1 held, 2 denied.
unfoldable pub value_of : Bool → Bool → ℕ
value_of true d = 1
value_of false true = 2
value_of false false = 0

-- What the pair says of statement i.
unfoldable pub value : Pair → ℕ → ℕ
value p i = value_of (member i p.held) (member i p.denied)

-- The pair p comes before q: fewer exceptions taken; then the smaller taken number;
-- then, at the lowest-numbered statement that differs, absent before held before denied.
pub data Before (p q : Pair) : Type 0 where
  fewer : size p.taken < size q.taken → Before p q
  smaller : size p.taken ≡ size q.taken → p.taken < q.taken → Before p q
  differs : p.taken ≡ q.taken → (i : ℕ) → 0 < i → ((j : ℕ) → 0 < j → j < i → value p j ≡ value q j) → value p i < value q i → Before p q

-- The list strictly ascends: each member comes before all that follow it.
abbrev pub Ascending : List Pair → Type 0
Ascending [] = Unit {0}
Ascending (p ∷ ps) = Every (Before p) ps × Ascending ps

-- A point of a listing: before the first pair, or a pair.
pub data Point : Type 0 where
  start : Point
  at : Pair → Point

-- The point is lawful for the book: before the first pair, or a lawful pair.
abbrev pub LawfulPoint : Book → Point → Type 0
LawfulPoint b start = Unit {0}
LawfulPoint b (at p) = Lawful b p

-- The pair is later than the point.
abbrev pub Later : Point → Pair → Type 0
Later start q = Unit {0}
Later (at p) q = Before p q

-- The list of all resolutions later than the point, in the order of pairs, each once.
pub record AllLater (b : Book) (from : Point) (ps : List Pair) : Type 0 where
  pub only : Every (λ p. Resolution b p × Later from p) ps
  pub all : (p : Pair) → Resolution b p → Later from p → Among p ps
  pub ascending : Ascending ps
