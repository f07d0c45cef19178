-- The number table (document 01, 'A book and its lines'): its rows, and its refusals ('Turned down, by place', number table).
use Rattle.std.specs.Prelude.{ℕ, suc, ◌+◌, Bool, not, List, [], ◌∷◌, ◌++◌, map, eqb, ltb, ℤ, pos, get_or, length, replicate, take, drop, Ok}
use Rattle.logic.specs.Tests.{pick, both, some}
use Rattle.book.specs.declared.Kind.{Kind}
use Rattle.book.specs.declared.Shape.{Shape}
use Rattle.book.specs.declared.Content.{Content}
use Rattle.book.specs.declared.Content.TheVariants.{Statements}
use Rattle.book.specs.Faults.{number}
use Rattle.book.specs.Kinds.{kinds, kind, numbers_of, front, range_of}
use Rattle.book.specs.Counts.{counts_of, shape_from, row_numbers}
use Rattle.text.specs.Lines.{Numbers, Line, test_field, between, inside, headless, missing, judged}
use Rattle.text.specs.Lines.Numbers.{numbers, fault}
use Rattle.text.specs.Reading.{Outcome, on_line, to_nat}
use Rattle.text.specs.Reading.Outcome.{accepted, refused}

-- ---- rows
-- A row: the place of its kind, and its numbers.
pub record Row : Type 0 where
  pub place : ℕ
  pub nums : List ℤ

-- The kinds of the rows in line order, from place k on: so many of each.
unfoldable pub layout : ℕ → List ℕ → List ℕ
layout k [] = []
layout k (c ∷ cs) = replicate c k ++ layout (suc k) cs

-- Rows of these kinds, their numbers one after the other.
unfoldable pub cut : List ℕ → List ℤ → List Row
cut [] ws = []
cut (k ∷ ks) ws = record { place = k; nums = take (kind k).numbers ws } ∷ cut ks (drop (kind k).numbers ws)

-- The rows of a book of this shape with these numbers; the first kind of row stands at place 1.
unfoldable pub rows_of : Shape → List ℤ → List Row
rows_of s ws = cut (layout 1 (counts_of s)) ws

-- ---- the test of a row: 6, its kind's own refusal for heads, 9 or 23, then 10
-- A row's numbers, tested left to right as fields that are spelt right. Rows are cut to their length, so 4 does not occur in tables.
unfoldable pub test_fields : List Content → ℕ → List ℤ → Numbers
test_fields [] n [] = numbers []
test_fields [] n (v ∷ vs) = fault 4
test_fields (c ∷ cs) n [] = fault 4
test_fields (c ∷ cs) n (v ∷ vs) = test_field (Ok v) (range_of c n) (test_fields cs n vs)

-- The refusal of a row as a whole in a book of m exceptions: its kind's own, 9 or 23, then 10; 0 if none.
unfoldable pub row_fault : ℕ → Kind → List ℤ → ℕ
row_fault m x vs = pick (headless x vs) (number x.unfilled) (pick (missing m x vs) 10 0)

unfoldable pub test_row : Shape → Row → Line
test_row s r = judged (row_fault s.exceptions (kind r.place)) r.place (test_fields (numbers_of (kind r.place)) s.statements r.nums)

-- "Then each row", with the line that it would have.
unfoldable pub test_rows : Shape → List Row → ℕ → Outcome
test_rows s [] at = accepted s []
test_rows s (r ∷ rs) at = on_line (test_row s r) at (λ k vs. test_rows s rs (suc at))

-- ---- the test of a table
-- n and the counts, as a shape. Each kind's row says where its count stands.
unfoldable pub shape_in : List ℤ → Shape
shape_in t = shape_from (to_nat (get_or t 0 (pos 0))) (map (λ x. to_nat (get_or t x.count (pos 0))) kinds)

-- The count of a kind of row is negative or over its limit.
unfoldable pub miscount : List ℤ → Kind → Bool
miscount t x = both x.row (not (between (pos 0) (pos x.limit) (get_or t x.count (pos 0))))

-- "16 under 4 numbers; 6 n; 8 a count negative or over; 16 length differs from the counts; then each row"; by document 02, (e), "the first 16
-- means a count is missing" and "8 covers every count, now and later", so that 19 and 22 never come from a table. n and counts have line 1, the
-- first row has line 2, for B is line 1.
unfoldable pub test_table : List ℤ → Outcome
test_table t =
    pick (ltb (length t) front) (refused 16 0)
    (pick (not (inside (range_of Statements 0) (get_or t 0 (pos 0)))) (refused 6 1)
    (pick (some (miscount t) kinds) (refused 8 1)
    (pick (not (eqb (length t) (front + row_numbers (shape_in t)))) (refused 16 0)
    (test_rows (shape_in t) (rows_of (shape_in t) (drop front t)) 2))))
