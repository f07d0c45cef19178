-- What First and After answer, as a function that computes: the first of all resolutions later than a point, or End.
use Rattle.std.specs.Prelude.{ℕ, zero, suc, Bool, true, false, List, [], ◌∷◌}
use Rattle.sets.specs.declared.Pair.{Pair}
use Rattle.meaning.specs.Books.{Book}
use Rattle.meaning.specs.Order.{Point, start, at}
use Rattle.meaning.specs.Twins.Verdicts.{resolutions}
use Rattle.meaning.specs.Twins.Tables.{before}
use Rattle.meaning.specs.Listings.{Answer, found, end, refused}

unfoldable pub later : ℕ → Point → Pair → Bool
later n start q = true
later n (at p) q = before n p q

-- The earlier of a pair and an answer.
unfoldable pub earlier : ℕ → Pair → Answer → Answer
earlier n p (found q) = elim (before n q p) [ true ↦ found q | false ↦ found p ]
earlier n p end = found p
earlier n p (refused k line) = found p

-- The first of the list that is later than the point.
unfoldable pub first_of : ℕ → Point → List Pair → Answer
first_of n from [] = end
first_of n from (p ∷ ps) = elim (later n from p) [ true ↦ earlier n p (first_of n from ps) | false ↦ first_of n from ps ]

-- The first resolution later than the point, or End if there is none.
unfoldable pub next_from : Book → Point → Answer
next_from b from = first_of b.statements from (resolutions b)

-- The first k resolutions later than the point: as many answers, each from the point that the one before it gave.
unfoldable pub onward_from : Answer → (Pair → List Pair) → List Pair
onward_from (found p) rest = p ∷ rest p
onward_from end rest = []
onward_from (refused k line) rest = []

unfoldable pub page_from : Book → ℕ → Point → List Pair
page_from b zero from = []
page_from b (suc k) from = onward_from (next_from b from) (λ p. page_from b k (at p))
