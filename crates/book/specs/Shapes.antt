-- The code's constants as the definitions give them.
use Rattle.std.specs.Prelude.{pos, replicate}
use Rattle.book.specs.declared.Limits.{Limits}
use Rattle.book.specs.declared.Shape.{Shape}
use Rattle.book.specs.declared.Book.{Book}
use Rattle.book.specs.Limits as limit
use Rattle.book.specs.Kinds.{longest, room, most_rows, longest_table, set_count, rules}

-- The limits and all that follows from them.
unfoldable pub limits : Limits
limits = record {
  statements = limit.statements;
  plain = limit.plain;
  exceptions = limit.exceptions;
  preferences = limit.preferences;
  conditionals = limit.conditionals;
  alternatives = limit.alternatives;
  text = longest;
  rules = rules;
  rows = most_rows;
  numbers = longest_table;
  sets = set_count;
}

-- The shape of the empty book: one statement, no line but B and Z.
unfoldable pub empty_shape : Shape
empty_shape = record { statements = 1; plain = 0; exceptions = 0; preferences = 0; conditionals = 0; alternatives = 0 }

-- The empty book: that shape, and every number of its rows 0.
unfoldable pub empty_book : Book
empty_book = record { shape = empty_shape; rows = replicate room (pos 0) }
