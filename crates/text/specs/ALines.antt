-- The bytes of Line (document 01, 'Six operations', 5; document 02, (c)): "writes `A`, the count taken in a field of 4 columns, 12 such fields
-- with the taken exceptions ascending then 0, and for each statement `.`, `+` or `-`", then a line feed; in longer books 16 such fields.
use Rattle.std.specs.Prelude.{ℕ, zero, suc, List, [], ◌∷◌, ◌++◌, map, leb, pos, take, replicate}
use Rattle.logic.specs.Tests.{pick, keep}
use Rattle.sets.specs.Sets.{member, size}
use Rattle.sets.specs.declared.Pair.{Pair}
use Rattle.book.specs.Limits as limit
use Rattle.text.specs.Fields.{written_all}

-- The n numbers from i on.
unfoldable pub from : ℕ → ℕ → List ℕ
from i zero = []
from i (suc n) = i ∷ from (suc i) n

-- How many fields for exceptions a line has in a book with so many exceptions: "Books with at most 12 exceptions keep Line's 12 fields; longer
-- books get 16", as many as a book may have.
unfoldable pub line_fields : ℕ → ℕ
line_fields exceptions = pick (leb exceptions limit.short_line) limit.short_line limit.exceptions

-- The exceptions taken of the first w, ascending, then zeros: w numbers.
unfoldable pub taken_fields : ℕ → ℕ → List ℕ
taken_fields w taken = take w (keep (λ i. member i taken) (from 1 w) ++ replicate w 0)

-- What the pair says of statement i: held `+`, denied `-`, else `.`.
unfoldable pub mark : Pair → ℕ → ℕ
mark p i = pick (member i p.held) 43 (pick (member i p.denied) 45 46)

-- The line of a pair in a book of n statements, with w fields for exceptions.
unfoldable pub a_line : ℕ → ℕ → Pair → List ℕ
a_line w n p = 65 ∷ (written_all (map pos (size p.taken ∷ taken_fields w p.taken)) ++ (map (mark p) (from 1 n) ++ (10 ∷ [])))
