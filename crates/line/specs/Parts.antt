-- The parts of an A line as its functions write them.
use Rattle.std.specs.Prelude.{ℕ, ◌+◌, ◌*◌, List, map, pos}
use Rattle.logic.specs.Tests.{keep}
use Rattle.sets.specs.Sets.{member}
use Rattle.text.specs.Fields.{written_all}
use Rattle.text.specs.ALines.{from}

-- Numbers in fields of 4 columns.
unfoldable pub fields_of : List ℕ → List ℕ
fields_of ns = written_all (map pos ns)

-- The exceptions taken of the first w, ascending.
unfoldable pub taken_of : ℕ → ℕ → List ℕ
taken_of w taken = keep (λ i. member i taken) (from 1 w)

-- The bytes of a line: the letter, the count and w exceptions in fields, a mark for each of n statements, the line feed.
abbrev pub line_bytes : ℕ → ℕ → ℕ
line_bytes w n = 1 + (1 + w) * 4 + n + 1
