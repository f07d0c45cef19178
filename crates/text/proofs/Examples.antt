-- Books that are accepted: the empty book, and a full one of 48 statements, 200 R, 40 O, 16 X, 32 P and 32 Q lines. So no shape of book is shut out.
-- The tables' tests are computed; that the texts are accepted follows by `write_read`.
use mathlib.Core.Path.{◌≡◌, refl}
use mathlib.Core.List.{List, [], ◌∷◌, ◌++◌}
use Prim.Native.Nat.{ℕ, ◌+◌, ◌*◌}
use lib.IntN.{ℤ, pos, negsuc}
use lib.ListN.{replicate}
use Rattle.logic.specs.Tests.{both, pick, cons_if, some, concat_map}
use Rattle.book.specs.declared.Shape.{Shape}
use Rattle.book.specs.Limits as limit
use Rattle.book.specs.Kinds.{kinds, kind, unknown, contents, fields_of, numbers_of, row_once, entries_each, rule_fields, preference_fields, most_rows, most, range_of}
use Rattle.book.specs.Counts.{counts_of, front_of, all_counts, count_at, shape_from, sum_to}
use Rattle.book.specs.Shapes.{empty_shape}
use Rattle.text.specs.Lines.{between, inside, and_then, test_field, code, numbers_in, filled_in, headless, missing, unless, judged}
use Rattle.text.specs.Reading.{to_nat, row_of, prepend, on_line, read_text, table_of}
use Rattle.text.specs.Reading.Outcome.{accepted}
use Rattle.text.specs.Tables.{layout, cut, rows_of, test_fields, row_fault, test_row, test_rows, shape_in, miscount, test_table}
use Rattle.text.specs.Writing.{text_of}
use Rattle.text.proofs.Inverse.{write_read}

pub empty-table : test_table (table_of empty_shape []) ≡ accepted empty_shape []
unfolding kinds kind unknown contents numbers_of range_of between inside both pick some to_nat table_of empty_shape counts_of front_of all_counts count_at shape_from sum_to layout cut rows_of test_rows shape_in miscount test_table
empty-table = refl

pub empty-text : read_text (text_of empty_shape []) ≡ accepted empty_shape []
empty-text = (write_read (table_of empty_shape []) empty_shape [] empty-table).0

-- The full book: constraints with empty bodies, rules with the alternatives +1 and -48, exceptions that give +1, preferences of the first exception
-- over itself, and the same under an empty condition.
unfoldable pub full_shape : Shape
full_shape = record {
  statements = limit.statements;
  plain = limit.plain;
  exceptions = limit.exceptions;
  preferences = limit.preferences;
  conditionals = limit.conditionals;
  alternatives = limit.alternatives;
}

abbrev empty_body : List ℤ
empty_body = replicate (entries_each + entries_each) (pos 0)

-- A row so many times.
abbrev times : ℕ → List ℤ → List ℤ
times c vs = concat_map (λ x. x) (replicate c vs)

unfoldable pub full_rows : List ℤ
full_rows =
    replicate (limit.plain * rule_fields) (pos 0)
    ++ (times limit.alternatives (pos 1 ∷ negsuc 47 ∷ pos 0 ∷ empty_body)
    ++ (times limit.exceptions (pos 1 ∷ empty_body)
    ++ (replicate (limit.preferences * preference_fields) (pos 1) ++ times limit.conditionals (pos 1 ∷ pos 1 ∷ empty_body))))

pub full-table : test_table (table_of full_shape full_rows) ≡ accepted full_shape full_rows
unfolding kinds kind unknown contents fields_of numbers_of most_rows most row_once range_of between inside and_then test_field code numbers_in filled_in headless missing unless judged both pick cons_if some concat_map to_nat row_of prepend on_line table_of counts_of front_of all_counts count_at shape_from sum_to layout cut rows_of test_fields row_fault test_row test_rows shape_in miscount test_table full_shape full_rows
full-table = refl

pub full-text : read_text (text_of full_shape full_rows) ≡ accepted full_shape full_rows
full-text = (write_read (table_of full_shape full_rows) full_shape full_rows full-table).0
