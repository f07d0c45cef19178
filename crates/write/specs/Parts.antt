-- The parts of a text as they are written: the lines of one kind, the lines of all rows.
use Rattle.std.specs.Prelude.{ℕ, List, ℤ, drop, replicate}
use Rattle.book.specs.declared.Shape.{Shape}
use Rattle.book.specs.Kinds.{front}
use Rattle.text.specs.Lines.{unlines}
use Rattle.text.specs.Tables.{cut, rows_of}
use Rattle.text.specs.Writing.{row_lines}

-- The lines of c rows of the kind at place k, their numbers from a place of the table on.
unfoldable pub lines_at : ℕ → List ℤ → ℕ → ℕ → List ℕ
lines_at k t from c = unlines (row_lines (cut (replicate c k) (drop from t)))

-- The lines of all rows of a table of this shape.
unfoldable pub rows_text : Shape → List ℤ → List ℕ
rows_text s t = unlines (row_lines (rows_of s (drop front t)))
