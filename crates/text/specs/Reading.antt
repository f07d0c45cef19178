-- Read (document 01, 'Six operations', 1, and 'Turned down, by place'): from a text to a book's shape and rows, or a refusal with its line.
use Rattle.std.specs.Prelude.{ℕ, suc, List, [], ◌∷◌, ◌++◌, map, eqb, ltb, ℤ, pos, negsuc, get_or, length, replicate, drop, set, Result, Ok, Err}
use Rattle.logic.specs.Tests.{pick}
use Rattle.book.specs.declared.Shape.{Shape}
use Rattle.book.specs.declared.Content.TheVariants.{Statements}
use Rattle.book.specs.Kinds.{kind, fields_of, none, longest}
use Rattle.book.specs.Counts.{front_of, shape_from}
use Rattle.text.specs.declared.State.{State}
use Rattle.text.specs.declared.Refusal.{Refusal}
use Rattle.text.specs.Lines.{Line, lines, numbers_in, read_line}
use Rattle.text.specs.Lines.Line.{line, wrong}

-- ---- from line to line
-- Before the first line only the first kind, B, may come, and nothing has come.
unfoldable pub start : State
start = record { next = 0; statements = 0; counts = replicate none 0; rows = 0 }

-- A number that is not negative.
unfoldable pub to_nat : ℤ → ℕ
to_nat (pos m) = m
to_nat (negsuc m) = 0

-- The last of the numbers, and n if there is none.
unfoldable pub last_or : ℕ → List ℤ → ℕ
last_or n [] = n
last_or n (v ∷ vs) = last_or (to_nat v) vs

-- The first kind that may follow one at place k: another of the same kind if it is a row of the table; B and Z stand once.
unfoldable pub after : ℕ → ℕ
after k = pick (kind k).row k (suc k)

-- What is known after a line of the kind at place k with these numbers: n from the field that holds it, one line more of its kind.
unfoldable pub step : State → ℕ → List ℤ → State
step st k vs = record {
  next = after k;
  statements = last_or st.statements (numbers_in Statements (fields_of (kind k)) vs);
  counts = set st.counts k (suc (get_or st.counts k 0));
  rows = pick (kind k).row (suc st.rows) st.rows;
}

-- The numbers that such a line adds to the rows of the number table.
unfoldable pub row_of : ℕ → List ℤ → List ℤ
row_of k vs = pick (kind k).row vs []

-- ---- the text
-- A book's shape, which is the numbers before the rows of its number table, and its rows; or a refusal's number and line.
pub data Outcome : Type 0 where
  accepted : Shape → List ℤ → Outcome
  refused : ℕ → ℕ → Outcome

unfoldable pub prepend : List ℤ → Outcome → Outcome
prepend vs (accepted s ws) = accepted s (vs ++ ws)
prepend vs (refused q l) = refused q l

-- n and the counts of the kinds at the end.
abbrev pub shape_of : State → Shape
shape_of st = shape_from st.statements st.counts

-- After the last line, `at` being the number of the line after it: "a missing Z counts as the line after the last".
unfoldable pub read_end : State → ℕ → Outcome
read_end st at = pick (eqb st.next none) (accepted (shape_of st) []) (refused 3 at)

-- Line number `at`: its refusal, or its row before what the lines after it give.
unfoldable pub on_line : Line → ℕ → (ℕ → List ℤ → Outcome) → Outcome
on_line (wrong q) at rest = refused q at
on_line (line k vs) at rest = prepend (row_of k vs) (rest k vs)

-- "Each line from the top", lines counted from `at`.
unfoldable pub read_lines : List (List ℕ) → State → ℕ → Outcome
read_lines [] st at = read_end st at
read_lines (l ∷ ls) st at = on_line (read_line st l) at (λ k vs. read_lines ls (step st k vs) (suc at))

-- ---- a book in front of lines
-- A book's shape and rows, the lines left after its Z and the number of the first of them; or a refusal's number and line.
pub data Front : Type 0 where
  found : Shape → List ℤ → List (List ℕ) → ℕ → Front
  stopped : ℕ → ℕ → Front

unfoldable pub with_row : List ℤ → Front → Front
with_row vs (found s ws ls at) = found s (vs ++ ws) ls at
with_row vs (stopped q at) = stopped q at

unfoldable pub on_front : Line → ℕ → (ℕ → List ℤ → Front) → Front
on_front (wrong q) at rest = stopped q at
on_front (line k vs) at rest = with_row (row_of k vs) (rest k vs)

-- The book in front of the lines, which are not looked at after its Z; lines counted from `at`.
unfoldable pub read_book : List (List ℕ) → State → ℕ → Front
read_book [] st at = pick (eqb st.next none) (found (shape_of st) [] [] at) (stopped 3 at)
read_book (l ∷ ls) st at = pick (eqb st.next none) (found (shape_of st) [] (l ∷ ls) at) (on_front (read_line st l) at (λ k vs. read_book ls (step st k vs) (suc at)))

-- Nothing may follow it: a line after Z is refused by 3. So read, the lines give what `read_lines` gives (proofs/Fronts, `alone-lines`).
unfoldable pub alone : Front → Outcome
alone (found s ws [] at) = accepted s ws
alone (found s ws (l ∷ ls) at) = refused 3 at
alone (stopped q at) = refused q at

-- ---- the text as a whole
-- The last byte; 0 for an empty text.
unfoldable pub last_byte : List ℕ → ℕ
last_byte [] = 0
last_byte (b ∷ []) = b
last_byte (b ∷ c ∷ bs) = last_byte (c ∷ bs)

-- "Whole text: 1 too long; 2 empty, or last byte isn't a line feed", both with line 0; then the lines, counted from 1.
unfoldable pub read_text : List ℕ → Outcome
read_text bs = pick (ltb longest (length bs)) (refused 1 0) (pick (eqb (last_byte bs) 10) (read_lines (lines bs) start 1) (refused 2 0))

-- ---- the lent slice
-- The number table: n, the counts of R, X, P, Q and O, the rows in line order.
unfoldable pub table_of : Shape → List ℤ → List ℤ
table_of s ws = map pos (front_of s) ++ ws

-- A slice with the list in front of it, and the rest as it was.
unfoldable pub over : {A : Type 0} → List A → List A → List A
over l vs = vs ++ drop (length vs) l

-- "Lent buffer, last: 15 shorter than the answer", line 0.
unfoldable pub lent : List ℤ → Outcome → Outcome
lent l (accepted s ws) = pick (ltb (length l) (length (table_of s ws))) (refused 15 0) (accepted s ws)
lent l (refused q at) = refused q at

-- Read of a text with a lent slice l.
unfoldable pub read_with : List ℤ → List ℕ → Outcome
read_with l bs = lent l (read_text bs)

-- A refusal of this number, tied to this line.
abbrev pub refusal : ℕ → ℕ → Refusal
refusal q at = record { number = q; line = at }

-- What Read answers: the numbers before the table's rows, or the refusal's number and line.
unfoldable pub read_answer : Outcome → Result Shape Refusal
read_answer (accepted s ws) = Ok s
read_answer (refused q at) = Err (refusal q at)

-- What Read leaves in the lent slice: the number table in front and "the rest of the slice is unchanged"; all of it after a refusal.
unfoldable pub read_into : List ℤ → Outcome → List ℤ
read_into l (accepted s ws) = over l (table_of s ws)
read_into l (refused q at) = l
