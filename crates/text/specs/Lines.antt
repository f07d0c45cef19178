-- A line, apart from the lines around it (document 01, 'A book and its lines' and 'Turned down, by place'): its letter, its length, its
-- fields, the line as a whole. What a kind of line is stands in a row of data (crate book, Kinds); nothing here speaks of a letter.
use Rattle.std.specs.Prelude.{ℕ, zero, suc, ◌+◌, Bool, not, List, [], ◌∷◌, ◌++◌, eqb, ltb, leb, ℤ, pos, get_or, length, take, drop, Result, Ok, Err}
use Rattle.std.specs.Int.Signed.{le_z}
use Rattle.logic.specs.Tests.{both, pick, cons_if, some}
use Rattle.book.specs.declared.Kind.{Kind}
use Rattle.book.specs.declared.Content.{Content}
use Rattle.book.specs.declared.Content.TheVariants.{Edition, Statements, Literal, Exception, Total}
use Rattle.book.specs.Faults.{number}
use Rattle.book.specs.Kinds.{kinds, kind, fields_of, bytes, none, exception, Range, range_of}
use Rattle.text.specs.declared.State.{State}
use Rattle.text.specs.Fields.{first_field, written_all}

-- "Each line ends with a line feed (byte 10)": the lines of a text, each without its line feed; and the text of lines.
unfoldable pub to_first : ℕ → List (List ℕ) → List (List ℕ)
to_first b [] = (b ∷ []) ∷ []
to_first b (l ∷ ls) = (b ∷ l) ∷ ls

unfoldable pub lines : List ℕ → List (List ℕ)
lines [] = []
lines (b ∷ bs) = pick (eqb b 10) ([] ∷ lines bs) (to_first b (lines bs))

unfoldable pub unlines : List (List ℕ) → List ℕ
unlines [] = []
unlines (l ∷ ls) = l ++ (10 ∷ unlines ls)

-- "A line is one letter and then fields": the line of the kind at place k with these numbers.
unfoldable pub line_of : ℕ → List ℤ → List ℕ
line_of k vs = (kind k).letter ∷ written_all vs

-- ---- its letter: 3 not allowed here
-- The place of the kind with this letter among the kinds from place k on; `none` if there is none. Rows of the table may be missing; any
-- other kind may not, so the search ends there.
unfoldable pub seek : ℕ → ℕ → List Kind → ℕ
seek b k [] = none
seek b k (x ∷ xs) = pick (eqb x.letter b) k (pick x.row (seek b (suc k) xs) none)

-- The kind of a line with this letter, where the kinds before `next` may not come any more.
unfoldable pub kind_for : ℕ → ℕ → ℕ
kind_for next b = seek b next (drop next kinds)

-- ---- its fields, left to right, each tested 5, 17, 18, 7, 6
-- The number lies from the range's low to its high.
unfoldable pub between : ℤ → ℤ → ℤ → Bool
between low high v = both (le_z low v) (le_z v high)

unfoldable pub inside : Range → ℤ → Bool
inside r v = between r.low r.high v

-- The numbers of a line's fields, or the refusal of the first field that is not right.
pub data Numbers : Type 0 where
  numbers : List ℤ → Numbers
  fault : ℕ → Numbers

unfoldable pub and_then : ℤ → Numbers → Numbers
and_then v (numbers vs) = numbers (v ∷ vs)
and_then v (fault q) = fault q

-- A field, its range, and what the fields after it give: its own refusal if it is misspelt, 5, 17 or 18; then the range's, 7 for the edition,
-- else 6.
unfoldable pub test_field : Result ℤ ℕ → Range → Numbers → Numbers
test_field (Err q) r rest = fault q
test_field (Ok v) r rest = pick (inside r v) (and_then v rest) (fault (number r.fault))

-- The fields of these contents at the front of the bytes, in a book of n statements.
unfoldable pub read_fields : List Content → ℕ → List ℕ → Numbers
read_fields [] n bs = numbers []
read_fields (c ∷ cs) n bs = test_field (first_field bs) (range_of c n) (read_fields cs n (drop 4 bs))

-- ---- the line as a whole
-- A content as a number, to tell contents apart.
unfoldable pub code : Content → ℕ
code Edition = 0
code Statements = 1
code Literal = 2
code Exception = 3
code Total = 4

-- The numbers of a line that stand in fields of this content.
unfoldable pub numbers_in : Content → List Content → List ℤ → List ℤ
numbers_in c [] vs = []
numbers_in c (d ∷ ds) [] = []
numbers_in c (d ∷ ds) (v ∷ vs) = cons_if (eqb (code c) (code d)) v (numbers_in c ds vs)

-- How many of the numbers are filled: not 0.
unfoldable pub filled_in : List ℤ → ℕ
filled_in [] = 0
filled_in (v ∷ vs) = pick (between (pos 0) (pos 0) v) (filled_in vs) (suc (filled_in vs))

-- The kind's own refusal, 9, or 23: fewer heads are filled than it asks for ("exception with head 0"; document 02, (g): "23 when fewer than two of
-- its heads are filled, in the place of 9").
unfoldable pub headless : Kind → List ℤ → Bool
headless x vs = ltb (filled_in (take x.heads vs)) x.filled

-- 10: a field names an exception past the m that the book has ("P names a missing exception"; document 02, (e): "10 covers
-- Q lines").
unfoldable pub missing : ℕ → Kind → List ℤ → Bool
missing m x vs = some (λ v. not (le_z v (pos m))) (numbers_in Exception (fields_of x) vs)

-- 11: a field that counts the rows does not say m ("Z's number wrong").
unfoldable pub miscounted : ℕ → Kind → List ℤ → Bool
miscounted m x vs = some (λ v. not (between (pos m) (pos m) v)) (numbers_in Total (fields_of x) vs)

-- The refusal of a line of the kind at place k as a whole, after the lines before it: the kind's own one over its limit, 8 ("19 when a Q line
-- is over 32", "22 when an O line is over 40", each "in the place of 8"), then its own for heads that are missing, 9 or 23, then 10, 11; 0 if none.
unfoldable pub whole_of : State → ℕ → List ℤ → ℕ
whole_of st k vs =
    pick (leb (kind k).limit (get_or st.counts k 0)) (number (kind k).over)
    (pick (headless (kind k) vs) (number (kind k).unfilled)
    (pick (missing (get_or st.counts exception 0) (kind k) vs) 10
    (pick (miscounted st.rows (kind k) vs) 11 0)))

-- ---- all of it
-- A line is of a kind and has its numbers, or it is refused.
pub data Line : Type 0 where
  line : ℕ → List ℤ → Line
  wrong : ℕ → Line

unfoldable pub unless : ℕ → Line → Line
unless zero l = l
unless (suc q) l = wrong (suc q)

-- A line of the kind at place k by its fields, and then by a test of the line as a whole.
unfoldable pub judged : (List ℤ → ℕ) → ℕ → Numbers → Line
judged whole k (fault q) = wrong q
judged whole k (numbers vs) = unless (whole vs) (line k vs)

-- What follows the letter: 4 wrong length, with the letter and the line feed; then the fields and the whole.
unfoldable pub read_rest : State → ℕ → List ℕ → Line
read_rest st k bs = pick (eqb (2 + length bs) (bytes (kind k))) (judged (whole_of st k) k (read_fields (fields_of (kind k)) st.statements bs)) (wrong 4)

-- 3 where the letter is that of no kind that may come, also on an empty line; then the rest.
unfoldable pub read_kind : State → ℕ → List ℕ → Line
read_kind st k bs = pick (ltb k none) (read_rest st k bs) (wrong 3)

unfoldable pub read_line : State → List ℕ → Line
read_line st [] = wrong 3
read_line st (b ∷ bs) = read_kind st (kind_for st.next b) bs
