-- Write (document 01, 'Six operations', 6): from a number table to its text, "the inverse of Read".
use Rattle.std.specs.Prelude.{ℕ, List, [], ◌∷◌, ◌++◌, ltb, ℤ, pos, length, Result, Ok, Err}
use Rattle.logic.specs.Tests.{pick}
use Rattle.book.specs.declared.Shape.{Shape}
use Rattle.book.specs.Kinds.{first, last}
use Rattle.book.specs.Counts.{total}
use Rattle.text.specs.declared.Refusal.{Refusal}
use Rattle.text.specs.Lines.{line_of, unlines}
use Rattle.text.specs.Reading.{Outcome, over, refusal}
use Rattle.text.specs.Reading.Outcome.{accepted, refused}
use Rattle.text.specs.Tables.{Row, rows_of, test_table}

-- The line B: edition 1 and n.
unfoldable pub first_row : ℕ → Row
first_row n = record { place = first; nums = pos 1 ∷ pos n ∷ [] }

-- The line Z: the number of R, O, X, P and Q lines.
unfoldable pub last_row : ℕ → Row
last_row m = record { place = last; nums = pos m ∷ [] }

-- The lines of a book: B, the rows, Z.
unfoldable pub book_rows : Shape → List ℤ → List Row
book_rows s ws = first_row s.statements ∷ (rows_of s ws ++ (last_row (total s) ∷ []))

-- Their bytes.
unfoldable pub row_lines : List Row → List (List ℕ)
row_lines [] = []
row_lines (r ∷ rs) = line_of r.place r.nums ∷ row_lines rs

-- The text of a book.
unfoldable pub text_of : Shape → List ℤ → List ℕ
text_of s ws = unlines (row_lines (book_rows s ws))

-- ---- Write
-- The text that is written, or a refusal's number and line.
pub data Text : Type 0 where
  text : List ℕ → Text
  no_text : ℕ → ℕ → Text

-- The table's own refusals, then "lent buffer, last: 15 shorter than the answer", line 0.
unfoldable pub lent_bytes : List ℕ → Outcome → Text
lent_bytes l (accepted s ws) = pick (ltb (length l) (length (text_of s ws))) (no_text 15 0) (text (text_of s ws))
lent_bytes l (refused q at) = no_text q at

-- Write of a table with a lent slice l.
unfoldable pub write_with : List ℕ → List ℤ → Text
write_with l t = lent_bytes l (test_table t)

-- What Write answers: the text's length, or the refusal's number and line.
unfoldable pub write_answer : Text → Result ℕ Refusal
write_answer (text bs) = Ok (length bs)
write_answer (no_text q at) = Err (refusal q at)

-- What Write leaves in the lent slice: the text in front and "bytes past the text are unchanged"; all of it after a refusal.
unfoldable pub write_into : List ℕ → Text → List ℕ
write_into l (text bs) = over l bs
write_into l (no_text q at) = l
