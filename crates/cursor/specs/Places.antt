-- Where the reader stands (document 01, 'A book and its lines': it "moves through the text line by line and counts the lines from 1").
use Rattle.std.specs.Prelude.{ℕ, ◌+◌}
use Rattle.cursor.specs.declared.Cursor.{Cursor}

-- The reader at the first line; and past a line of len bytes and its line feed.
abbrev pub first_cursor : Cursor
first_cursor = record { at = 0; line = 1 }

abbrev pub past_line : Cursor → ℕ → Cursor
past_line c len = record { at = c.at + len + 1; line = c.line + 1 }
