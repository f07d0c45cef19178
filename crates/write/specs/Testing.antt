-- What the functions that test a table answer, by the definitions of crate text.
use Rattle.std.specs.Prelude.{ℕ, List, [], ◌∷◌, ℤ, Result, Ok, Err, ⊤}
use Rattle.logic.specs.Tests.{pick}
use Rattle.book.specs.declared.Content.{Content}
use Rattle.book.specs.Faults.{number}
use Rattle.book.specs.Kinds.{kind, numbers_of, range_of}
use Rattle.book.specs.declared.Shape.{Shape}
use Rattle.text.specs.declared.Refusal.{Refusal}
use Rattle.text.specs.Lines.{Line, inside, judged}
use Rattle.text.specs.Lines.Line.{line, wrong}
use Rattle.text.specs.Tables.{test_fields, row_fault}
use Rattle.fields.specs.declared.Seen.{Seen}
use Rattle.fields.specs.Checks.{see_of}

-- The numbers in front, one by one, as numbers of fields of these contents.
unfoldable pub test_seen : ℕ → ℕ → List Content → Seen → List ℤ → Result Seen ℕ
test_seen n m [] s vs = Ok s
test_seen n m (c ∷ cs) s [] = Ok s
test_seen n m (c ∷ cs) s (v ∷ vs) = pick (inside (range_of c n) v) (test_seen n m cs (see_of s c m 0 v) vs) (Err (number (range_of c n).fault))

-- A line as an answer: fine, or its refusal.
unfoldable pub line_is : Line → Result ⊤ ℕ
line_is (line k vs) = Ok tt
line_is (wrong q) = Err q

-- A row of the kind at place k in a book of n statements and m exceptions.
unfoldable pub row_is : ℕ → ℕ → ℕ → List ℤ → Result ⊤ ℕ
row_is n m k vs = line_is (judged (row_fault m (kind k)) k (test_fields (numbers_of (kind k)) n vs))

-- After rows whose test came to this, what the rows after them give.
unfoldable pub on_tested : Result ⊤ Refusal → Result Shape Refusal → Result Shape Refusal
on_tested (Ok u) rest = rest
on_tested (Err r) rest = Err r
