-- Texts and tables with their refusal and its line, or 0 and how many numbers the table has: computed through the definitions.
-- They are the small books K7 and K8, the case of document 02, (e), and for each refusal a case or more, at the first, a middle and the last line.
-- And texts with their tables, each given by the other.
use mathlib.Core.Bool.{Bool, true, false}
use mathlib.Core.List.{List, [], ◌∷◌, ◌++◌}
use Prim.Native.Nat.{ℕ}
use Prim.Native.Char.{code as code_of}
use Prim.Native.String.{String}
use Prim.Native.String as S
use lib.Dec.{T, eqb}
use lib.IntN.{ℤ, pos, negsuc}
use lib.ListN.{length, replicate}
use Rattle.logic.specs.Tests.{both, either, pick, cons_if, every, some, concat_map}
use Rattle.book.specs.Kinds.{kinds, kind, unknown, contents, fields_of, numbers_of, bytes, most, longest, row_once, most_rows, front, range_of}
use Rattle.book.specs.Counts.{counts_of, front_of, all_counts, count_at, shape_from, sum_to}
use Rattle.text.specs.Fields.{column_of, columns, written, written_all, digit_of, size_of, minus_in, signed, same, is_space, is_minus, is_digit, some_from, some_byte, other_byte, stray_byte, stray, space_after_digit, gapped, leading_zero, wrong_zero, misspelling, read_columns, spelt, first_field, in_columns}
use Rattle.text.specs.Lines.{to_first, lines, unlines, line_of, seek, kind_for, between, inside, and_then, test_field, read_fields, code, numbers_in, filled_in, headless, missing, miscounted, whole_of, unless, judged, read_rest, read_kind, read_line}
use Rattle.text.specs.Reading.{Outcome, start, to_nat, last_or, after, step, row_of, prepend, read_end, on_line, read_lines, last_byte, read_text, table_of}
use Rattle.text.specs.Reading.Outcome.{accepted, refused}
use Rattle.text.specs.Tables.{layout, cut, rows_of, test_fields, row_fault, test_row, test_rows, shape_in, miscount, test_table}
use Rattle.text.specs.Writing.{first_row, last_row, book_rows, row_lines, text_of}

-- The bytes of a text.
abbrev ascii : String → List ℕ
ascii S.[] = []
ascii (S.◌∷◌ c s) = code_of c ∷ ascii s

abbrev is : ℕ → ℕ → Outcome → Bool
is q l (accepted s ws) = pick (eqb q 0) (eqb l (length (table_of s ws))) false
is q l (refused p k) = both (eqb q p) (eqb l k)

abbrev texts : List (ℕ × ℕ × String) → Bool
texts [] = true
texts (v ∷ vs) = elim (is v.0 v.1 (read_text (ascii v.2))) [ true ↦ texts vs | false ↦ false ]

-- Texts with many equal lines: each piece so many times.
abbrev pieces : List (ℕ × String) → List ℕ
pieces [] = []
pieces (p ∷ ps) = concat_map (λ x. x) (replicate p.0 (ascii p.1)) ++ pieces ps

abbrev long_texts : List (ℕ × ℕ × List (ℕ × String)) → Bool
long_texts [] = true
long_texts (v ∷ vs) = elim (is v.0 v.1 (read_text (pieces v.2))) [ true ↦ long_texts vs | false ↦ false ]

abbrev tables : List (ℕ × ℕ × List ℤ) → Bool
tables [] = true
tables (v ∷ vs) = elim (is v.0 v.1 (test_table v.2)) [ true ↦ tables vs | false ↦ false ]

-- Texts that are read to a table and written from it.
abbrev same_numbers : List ℤ → List ℤ → Bool
same_numbers [] [] = true
same_numbers [] (w ∷ ws) = false
same_numbers (v ∷ vs) [] = false
same_numbers (v ∷ vs) (w ∷ ws) = both (between w w v) (same_numbers vs ws)

abbrev table_is : List ℤ → Outcome → Bool
table_is t (accepted s ws) = same_numbers (table_of s ws) t
table_is t (refused q l) = false

abbrev text_is : List ℕ → Outcome → Bool
text_is bs (accepted s ws) = same (text_of s ws) bs
text_is bs (refused q l) = false

abbrev pairs : List (String × List ℤ) → Bool
pairs [] = true
pairs (v ∷ vs) = elim (both (table_is v.1 (read_text (ascii v.0))) (text_is (ascii v.0) (test_table v.1))) [ true ↦ pairs vs | false ↦ false ]

-- The numbers that document 02, (g), gives: the bytes of the longest text, the most that Z says, how many numbers stand before the rows.
pub limits-right : T (both (eqb longest 11728) (both (eqb most_rows 320) (eqb front 6)))
unfolding kinds bytes most longest row_once most_rows both pick
limits-right = tt

pub texts-right : T (texts
    ((0, 42, "B   1   3\nR   0   0   0   0   0   1   2   0   0\nR   3   1   0   0   0   0   0   0   0\nX   1   0   0   0   0   0   0   0   0\nX   2   0   0   0   0   0   0   0   0\nZ   4\n") ∷
    (0, 44, "B   1   3\nR   0   0   0   0   0   1   2   0   0\nR   3   1   0   0   0   0   0   0   0\nX   1   0   0   0   0   0   0   0   0\nX   2   0   0   0   0   0   0   0   0\nP   1   2\nZ   5\n") ∷
    (0, 52, "B   1   3\nR   0   0   0   0   0   1   3   0   0\nX   1   0   0   0   0   0   0   0   0\nX   2   0   0   0   0   0   0   0   0\nX   3   0   0   0   0   0   0   0   0\nQ   3   1   0   0   0   0   2   0   0   0\nZ   5\n") ∷
    (0, 6, "B   1   1\nZ   0\n") ∷
    (0, 6, "B   1  48\nZ   0\n") ∷
    (2, 0, "") ∷
    (2, 0, "B   1   1") ∷
    (3, 1, "\n") ∷
    (3, 1, "Z   0\n") ∷
    (3, 2, "B   1   1\n") ∷
    (3, 2, "B   1   1\nB   1   1\nZ   0\n") ∷
    (3, 3, "B   1   1\nZ   0\n\n") ∷
    (3, 3, "B   1   1\nX   1   0   0   0   0   0   0   0   0\nR   0   0   0   0   0   0   0   0   0\nZ   2\n") ∷
    (4, 1, "B   1   1\r\nZ   0\r\n") ∷
    (4, 2, "B   1   1\nR   0\nZ   1\n") ∷
    (4, 2, "B   1   1\nZ  0\n") ∷
    (5, 1, "B   1\t  1\nZ   0\n") ∷
    (18, 2, "B   1   1\nZ  -0\n") ∷
    (18, 2, "B   1   1\nZ  00\n") ∷
    (18, 2, "B   1   1\nZ -01\n") ∷
    (18, 2, "B   1   1\nZ0000\n") ∷
    (17, 2, "B   1   1\nZ 0  \n") ∷
    (17, 2, "B   1   1\nZ0  0\n") ∷
    (17, 2, "B   1   1\nZ01 1\n") ∷
    (17, 2, "B   1   1\nZ1 -1\n") ∷
    (5, 2, "B   1   1\nZ1 1x\n") ∷
    (5, 2, "B   1   1\nZ01 x\n") ∷
    (5, 2, "B   1   1\nZ-  1\n") ∷
    (5, 2, "B   1   1\nZ  1-\n") ∷
    (5, 2, "B   1   1\nZ --1\n") ∷
    (5, 1, "B   -1  1\nZ   0\n") ∷
    (5, 1, "B   1\0  1\nZ   0\n") ∷
    (5, 1, "B   1 ÿ 1\nZ   0\n") ∷
    (17, 2, "B   1   1\nR 1 0   0   0   0   0   0   0   0   0\nZ   1\n") ∷
    (5, 2, "B   1   1\nZ  +0\n") ∷
    (17, 2, "B   1   1\nZ    \n") ∷
    (6, 2, "B   1   1\nR   2       0   0   0   0   0   0   0\nZ   1\n") ∷
    (7, 1, "B   2  01\nZ   0\n") ∷
    (18, 1, "B  02   1\nZ   0\n") ∷
    (7, 1, "B   2   1\nZ   0\n") ∷
    (7, 1, "B   2  49\nZ   0\n") ∷
    (6, 1, "B   1  49\nZ   0\n") ∷
    (6, 1, "B   1   0\nZ   0\n") ∷
    (6, 2, "B   1   1\nR   2   0   0   0   0   0   0   0   0\nZ   1\n") ∷
    (6, 2, "B   1   1\nR  -2   0   0   0   0   0   0   0   0\nZ   1\n") ∷
    (6, 2, "B   1   1\nZ 321\n") ∷
    (6, 2, "B   1   1\nZ  -1\n") ∷
    (6, 3, "B   1   1\nX   1   0   0   0   0   0   0   0   0\nP  17   1\nZ   2\n") ∷
    (9, 2, "B   1   1\nX   0   0   0   0   0   0   0   0   0\nZ   1\n") ∷
    (10, 2, "B   1   1\nP   1   1\nZ   1\n") ∷
    (10, 3, "B   1   1\nX   1   0   0   0   0   0   0   0   0\nP   1   2\nZ   2\n") ∷
    (10, 3, "B   1   1\nX   1   0   0   0   0   0   0   0   0\nP  16   1\nZ   2\n") ∷
    (11, 2, "B   1   1\nZ   1\n") ∷
    (11, 2, "B   1   1\nZ 320\n") ∷
    (11, 4, "B   1   1\nR   0   0   0   0   0   0   0   0   0\nR   0   0   0   0   0   0   0   0   0\nZ   1\n") ∷
    (0, 27, "B   1   1\nX   1   0   0   0   0   0   0   0   0\nP   1   1\nQ   1   1   1  -1   0   0   0   0   0   1\nZ   3\n") ∷
    (3, 4, "B   1   1\nX   1   0   0   0   0   0   0   0   0\nQ   1   1   0   0   0   0   0   0   0   0\nP   1   1\nZ   3\n") ∷
    (3, 4, "B   1   1\nX   1   0   0   0   0   0   0   0   0\nQ   1   1   0   0   0   0   0   0   0   0\nX   1   0   0   0   0   0   0   0   0\nZ   3\n") ∷
    (4, 3, "B   1   1\nX   1   0   0   0   0   0   0   0   0\nQ   1   1\nZ   2\n") ∷
    (4, 3, "B   1   1\nX   1   0   0   0   0   0   0   0   0\nQ   1   1   0   0   0   0   0   0   0\nZ   2\n") ∷
    (18, 3, "B   1   1\nX   1   0   0   0   0   0   0   0   0\nQ   1   1   0   0   0   0   0   0   0  00\nZ   2\n") ∷
    (6, 3, "B   1   1\nX   1   0   0   0   0   0   0   0   0\nQ  17   1   0   0   0   0   0   0   0   0\nZ   2\n") ∷
    (6, 3, "B   1   1\nX   1   0   0   0   0   0   0   0   0\nQ   1   0   0   0   0   0   0   0   0   0\nZ   2\n") ∷
    (6, 3, "B   1   1\nX   1   0   0   0   0   0   0   0   0\nQ   1   1   2   0   0   0   0   0   0   0\nZ   2\n") ∷
    (6, 3, "B   1   1\nX   1   0   0   0   0   0   0   0   0\nQ   1   2   0   0   0   0   0   0   0  -2\nZ   2\n") ∷
    (10, 3, "B   1   1\nX   1   0   0   0   0   0   0   0   0\nQ   1   2   0   0   0   0   0   0   0   0\nZ   2\n") ∷
    (10, 2, "B   1   1\nQ   1   1   0   0   0   0   0   0   0   0\nZ   1\n") ∷
    (11, 4, "B   1   1\nX   1   0   0   0   0   0   0   0   0\nQ   1   1   0   0   0   0   0   0   0   0\nZ   1\n") ∷
    (0, 26, "B   1   2\nR   1   0   0   0   0   0   0   0   0\nO   1   2   0   0   0   0   0   0   0   0   0\nZ   2\n") ∷
    (0, 17, "B   1   2\nO   1   2  -1  -2   1   0   0   0   0   0   2\nZ   1\n") ∷
    (0, 17, "B   1   2\nO   0  -1   1   0   0   0   0   0   0   0   0\nZ   1\n") ∷
    (0, 17, "B   1   2\nO   2   0   2   0   0   0   0   0   0   0   0\nZ   1\n") ∷
    (0, 47, "B   1   2\nR   0   0   0   0   0   1   0   0   0\nO   1   2   0   0   0   0   0   1   0   0   0\nX   1   0   0   0   0   0   0   0   0\nP   1   1\nQ   1   1   1   0   0   0   0   0   0   0\nZ   5\n") ∷
    (3, 3, "B   1   2\nO   1   2   0   0   0   0   0   0   0   0   0\nR   1   0   0   0   0   0   0   0   0\nZ   2\n") ∷
    (3, 3, "B   1   2\nX   1   0   0   0   0   0   0   0   0\nO   1   2   0   0   0   0   0   0   0   0   0\nZ   2\n") ∷
    (3, 2, "B   1   2\no   1   2   0   0   0   0   0   0   0   0   0\nZ   1\n") ∷
    (4, 2, "B   1   2\nO   1   2   0   0   0   0   0   0   0\nZ   1\n") ∷
    (4, 2, "B   1   2\nO   1   0   0   0   0   0   0   0   0   0\nZ   1\n") ∷
    (17, 2, "B   1   2\nO   1   2       0   0   0   0   0   0   0   0\nZ   1\n") ∷
    (18, 2, "B   1   2\nO   1  00   0   0   0   0   0   0   0   0   0\nZ   1\n") ∷
    (6, 2, "B   1   2\nO   1   3   0   0   0   0   0   0   0   0   0\nZ   1\n") ∷
    (6, 2, "B   1   2\nO   1   0  -3   0   0   0   0   0   0   0   0\nZ   1\n") ∷
    (6, 2, "B   1   2\nO   1   0   0   0   0   0   0   0   0   0   3\nZ   1\n") ∷
    (23, 2, "B   1   2\nO   1   0   0   0   0   0   0   0   0   0   0\nZ   1\n") ∷
    (23, 2, "B   1   2\nO   0   0   2   0   0   0   0   0   0   0   0\nZ   1\n") ∷
    (23, 2, "B   1   2\nO   0   0   0   1   2   0   0   1   2   0   0\nZ   1\n") ∷
    (23, 3, "B   1   2\nO   1   2   0   0   0   0   0   0   0   0   0\nO   0   1   0   2   0   0   0   0   0   0   0\nX   0   0   0   0   0   0   0   0   0\nZ   3\n") ∷
    (9, 3, "B   1   2\nO   1   2   0   0   0   0   0   0   0   0   0\nX   0   0   0   0   0   0   0   0   0\nZ   2\n") ∷
    (11, 3, "B   1   2\nO   1   2   0   0   0   0   0   0   0   0   0\nZ   0\n") ∷ []))
unfolding kinds kind unknown contents fields_of bytes most longest row_once most_rows shape_from front_of range_of both either pick cons_if every some column_of columns in_columns digit_of size_of minus_in signed same is_space is_minus is_digit some_from some_byte other_byte stray_byte stray space_after_digit gapped leading_zero wrong_zero misspelling read_columns spelt first_field to_first lines seek kind_for between inside and_then test_field read_fields code numbers_in filled_in headless missing miscounted whole_of unless judged read_rest read_kind read_line start to_nat last_or after step row_of prepend read_end on_line read_lines last_byte read_text table_of
texts-right = tt

pub long-texts-right : T (long_texts
    ((0, 152, (1, "B   1   1\n") ∷ (16, "X   1   0   0   0   0   0   0   0   0\n") ∷ (1, "P  16  13\nZ  17\n") ∷ []) ∷
    (8, 18, (1, "B   1   1\n") ∷ (17, "X   1   0   0   0   0   0   0   0   0\n") ∷ (1, "Z  17\n") ∷ []) ∷
    (0, 399, (1, "B   1   1\n") ∷ (1, "X   1   0   0   0   0   0   0   0   0\n") ∷ (32, "P   1   1\n") ∷ (32, "Q   1   1   0   0   0   0   0   0   0   0\n") ∷ (1, "Z  65\n") ∷ []) ∷
    (8, 35, (1, "B   1   1\n") ∷ (1, "X   1   0   0   0   0   0   0   0   0\n") ∷ (33, "P   1   1\n") ∷ (32, "Q   1   1   0   0   0   0   0   0   0   0\n") ∷ (1, "Z  66\n") ∷ []) ∷
    (19, 35, (1, "B   1   1\n") ∷ (1, "X   1   0   0   0   0   0   0   0   0\n") ∷ (33, "Q   1   1   0   0   0   0   0   0   0   0\n") ∷ (1, "Z  34\n") ∷ []) ∷
    (19, 35, (1, "B   1   1\n") ∷ (1, "X   1   0   0   0   0   0   0   0   0\n") ∷ (32, "Q   1   1   0   0   0   0   0   0   0   0\n") ∷ (1, "Q   1   2   0   0   0   0   0   0   0   0\nZ  34\n") ∷ []) ∷
    (6, 35, (1, "B   1   1\n") ∷ (1, "X   1   0   0   0   0   0   0   0   0\n") ∷ (32, "Q   1   1   0   0   0   0   0   0   0   0\n") ∷ (1, "Q   1   2   0   0   0   0   0   0   0   2\nZ  34\n") ∷ []) ∷
    (4, 35, (1, "B   1   1\n") ∷ (1, "X   1   0   0   0   0   0   0   0   0\n") ∷ (32, "Q   1   1   0   0   0   0   0   0   0   0\n") ∷ (1, "Q   1   1\nZ  34\n") ∷ []) ∷
    (0, 446, (1, "B   1   2\n") ∷ (40, "O   1   2   0   0   0   0   0   0   0   0   0\n") ∷ (1, "Z  40\n") ∷ []) ∷
    (22, 42, (1, "B   1   2\n") ∷ (41, "O   1   2   0   0   0   0   0   0   0   0   0\n") ∷ (1, "Z  41\n") ∷ []) ∷
    (22, 42, (1, "B   1   2\n") ∷ (40, "O   1   2   0   0   0   0   0   0   0   0   0\n") ∷ (1, "O   1   0   0   0   0   0   0   0   0   0   0\nZ  41\n") ∷ []) ∷
    (6, 42, (1, "B   1   2\n") ∷ (40, "O   1   2   0   0   0   0   0   0   0   0   0\n") ∷ (1, "O   3   0   0   0   0   0   0   0   0   0   0\nZ  41\n") ∷ []) ∷
    (4, 42, (1, "B   1   2\n") ∷ (40, "O   1   2   0   0   0   0   0   0   0   0   0\n") ∷ (1, "O   1   0   0   0   0   0   0   0   0\nZ  41\n") ∷ []) ∷
    (23, 41, (1, "B   1   2\n") ∷ (39, "O   1   2   0   0   0   0   0   0   0   0   0\n") ∷ (1, "O   0   1   0   0   0   0   0   0   0   0   0\nZ  40\n") ∷ []) ∷ []))
unfolding kinds kind unknown contents fields_of bytes most longest row_once most_rows shape_from front_of range_of both either pick cons_if every some column_of columns in_columns digit_of size_of minus_in signed same is_space is_minus is_digit some_from some_byte other_byte stray_byte stray space_after_digit gapped leading_zero wrong_zero misspelling read_columns spelt first_field to_first lines seek kind_for between inside and_then test_field read_fields code numbers_in filled_in headless missing miscounted whole_of unless judged read_rest read_kind read_line start to_nat last_or after step row_of prepend read_end on_line read_lines last_byte read_text table_of concat_map
long-texts-right = tt

pub pairs-right : T (pairs
    (("B   1   3\nR   0   0   0   0   0   1   3   0   0\nX   1   0   0   0   0   0   0   0   0\nX   2   0   0   0   0   0   0   0   0\nX   3   0   0   0   0   0   0   0   0\nQ   3   1   0   0   0   0   2   0   0   0\nZ   5\n", pos 3 ∷ pos 1 ∷ pos 3 ∷ pos 0 ∷ pos 1 ∷ pos 0 ∷ pos 0 ∷ pos 0 ∷ pos 0 ∷ pos 0 ∷ pos 0 ∷ pos 1 ∷ pos 3 ∷ pos 0 ∷ pos 0 ∷ pos 1 ∷ pos 0 ∷ pos 0 ∷ pos 0 ∷ pos 0 ∷ pos 0 ∷ pos 0 ∷ pos 0 ∷ pos 0 ∷ pos 2 ∷ pos 0 ∷ pos 0 ∷ pos 0 ∷ pos 0 ∷ pos 0 ∷ pos 0 ∷ pos 0 ∷ pos 0 ∷ pos 3 ∷ pos 0 ∷ pos 0 ∷ pos 0 ∷ pos 0 ∷ pos 0 ∷ pos 0 ∷ pos 0 ∷ pos 0 ∷ pos 3 ∷ pos 1 ∷ pos 0 ∷ pos 0 ∷ pos 0 ∷ pos 0 ∷ pos 2 ∷ pos 0 ∷ pos 0 ∷ pos 0 ∷ []) ∷
    ("B   1   3\nR  -3   0   0   0   0   0   0   0   0\nR   3   1   0   0   0   0   0   0   0\nO   1   0  -2   0   0   0   0   3   0   0   0\nO   2   2   0   0   0   0   0   0   0   0   0\nX   1   0   0   0   0   0   0   0   0\nP   1   1\nQ   1   1   2   0   0   0   0   0   0   0\nQ   1   1   0   0   0   0   2   0   0   0\nQ   1   1   0   0   0   0   0   0   0   0\nZ   9\n", pos 3 ∷ pos 2 ∷ pos 1 ∷ pos 1 ∷ pos 3 ∷ pos 2 ∷ negsuc 2 ∷ pos 0 ∷ pos 0 ∷ pos 0 ∷ pos 0 ∷ pos 0 ∷ pos 0 ∷ pos 0 ∷ pos 0 ∷ pos 3 ∷ pos 1 ∷ pos 0 ∷ pos 0 ∷ pos 0 ∷ pos 0 ∷ pos 0 ∷ pos 0 ∷ pos 0 ∷ pos 1 ∷ pos 0 ∷ negsuc 1 ∷ pos 0 ∷ pos 0 ∷ pos 0 ∷ pos 0 ∷ pos 3 ∷ pos 0 ∷ pos 0 ∷ pos 0 ∷ pos 2 ∷ pos 2 ∷ pos 0 ∷ pos 0 ∷ pos 0 ∷ pos 0 ∷ pos 0 ∷ pos 0 ∷ pos 0 ∷ pos 0 ∷ pos 0 ∷ pos 1 ∷ pos 0 ∷ pos 0 ∷ pos 0 ∷ pos 0 ∷ pos 0 ∷ pos 0 ∷ pos 0 ∷ pos 0 ∷ pos 1 ∷ pos 1 ∷ pos 1 ∷ pos 1 ∷ pos 2 ∷ pos 0 ∷ pos 0 ∷ pos 0 ∷ pos 0 ∷ pos 0 ∷ pos 0 ∷ pos 0 ∷ pos 1 ∷ pos 1 ∷ pos 0 ∷ pos 0 ∷ pos 0 ∷ pos 0 ∷ pos 2 ∷ pos 0 ∷ pos 0 ∷ pos 0 ∷ pos 1 ∷ pos 1 ∷ pos 0 ∷ pos 0 ∷ pos 0 ∷ pos 0 ∷ pos 0 ∷ pos 0 ∷ pos 0 ∷ pos 0 ∷ []) ∷ []))
unfolding kinds kind unknown contents fields_of numbers_of bytes most longest row_once most_rows shape_from front_of counts_of all_counts count_at sum_to range_of both either pick cons_if every some column_of columns in_columns written written_all digit_of size_of minus_in signed same is_space is_minus is_digit some_from some_byte other_byte stray_byte stray space_after_digit gapped leading_zero wrong_zero misspelling read_columns spelt first_field to_first lines unlines line_of seek kind_for between inside and_then test_field read_fields code numbers_in filled_in headless missing miscounted whole_of unless judged read_rest read_kind read_line start to_nat last_or after step row_of prepend read_end on_line read_lines last_byte read_text table_of layout cut rows_of test_fields row_fault test_row test_rows shape_in miscount test_table first_row last_row book_rows row_lines text_of
pairs-right = tt

pub tables-right : T (tables
    ((16, 0, []) ∷
    (16, 0, pos 1 ∷ pos 0 ∷ pos 0 ∷ pos 0 ∷ pos 0 ∷ []) ∷
    (6, 1, pos 0 ∷ pos 0 ∷ pos 0 ∷ pos 0 ∷ pos 0 ∷ pos 0 ∷ []) ∷
    (6, 1, pos 49 ∷ pos 201 ∷ pos 0 ∷ pos 0 ∷ pos 0 ∷ pos 0 ∷ []) ∷
    (8, 1, pos 1 ∷ pos 201 ∷ pos 0 ∷ pos 0 ∷ pos 0 ∷ pos 0 ∷ []) ∷
    (8, 1, pos 1 ∷ pos 0 ∷ negsuc 0 ∷ pos 0 ∷ pos 0 ∷ pos 0 ∷ []) ∷
    (8, 1, pos 48 ∷ pos 0 ∷ pos 0 ∷ pos 33 ∷ pos 0 ∷ pos 0 ∷ []) ∷
    (8, 1, pos 48 ∷ pos 0 ∷ pos 17 ∷ pos 0 ∷ pos 0 ∷ pos 0 ∷ []) ∷
    (16, 0, pos 48 ∷ pos 0 ∷ pos 16 ∷ pos 0 ∷ pos 0 ∷ pos 0 ∷ []) ∷
    (16, 0, pos 1 ∷ pos 0 ∷ pos 0 ∷ pos 0 ∷ pos 0 ∷ pos 0 ∷ pos 0 ∷ []) ∷
    (16, 0, pos 1 ∷ pos 1 ∷ pos 0 ∷ pos 0 ∷ pos 0 ∷ pos 0 ∷ pos 0 ∷ pos 0 ∷ pos 0 ∷ pos 0 ∷ pos 0 ∷ pos 0 ∷ pos 0 ∷ pos 0 ∷ []) ∷
    (6, 2, pos 1 ∷ pos 1 ∷ pos 0 ∷ pos 0 ∷ pos 0 ∷ pos 0 ∷ pos 0 ∷ pos 0 ∷ pos 0 ∷ pos 0 ∷ pos 0 ∷ pos 0 ∷ pos 0 ∷ pos 0 ∷ pos 2 ∷ []) ∷
    (9, 3, pos 1 ∷ pos 1 ∷ pos 1 ∷ pos 0 ∷ pos 0 ∷ pos 0 ∷ pos 0 ∷ pos 0 ∷ pos 0 ∷ pos 0 ∷ pos 0 ∷ pos 0 ∷ pos 0 ∷ pos 0 ∷ pos 0 ∷ pos 0 ∷ pos 0 ∷ pos 0 ∷ pos 0 ∷ pos 0 ∷ pos 0 ∷ pos 0 ∷ pos 0 ∷ pos 0 ∷ []) ∷
    (10, 4, pos 1 ∷ pos 1 ∷ pos 1 ∷ pos 1 ∷ pos 0 ∷ pos 0 ∷ pos 0 ∷ pos 0 ∷ pos 0 ∷ pos 0 ∷ pos 0 ∷ pos 0 ∷ pos 0 ∷ pos 0 ∷ pos 0 ∷ pos 1 ∷ pos 0 ∷ pos 0 ∷ pos 0 ∷ pos 0 ∷ pos 0 ∷ pos 0 ∷ pos 0 ∷ pos 0 ∷ pos 1 ∷ pos 2 ∷ []) ∷
    (6, 4, pos 1 ∷ pos 1 ∷ pos 1 ∷ pos 1 ∷ pos 0 ∷ pos 0 ∷ pos 0 ∷ pos 0 ∷ pos 0 ∷ pos 0 ∷ pos 0 ∷ pos 0 ∷ pos 0 ∷ pos 0 ∷ pos 0 ∷ pos 1 ∷ pos 0 ∷ pos 0 ∷ pos 0 ∷ pos 0 ∷ pos 0 ∷ pos 0 ∷ pos 0 ∷ pos 0 ∷ pos 0 ∷ pos 1 ∷ []) ∷
    (0, 26, pos 1 ∷ pos 1 ∷ pos 1 ∷ pos 1 ∷ pos 0 ∷ pos 0 ∷ pos 0 ∷ pos 0 ∷ pos 0 ∷ pos 0 ∷ pos 0 ∷ pos 0 ∷ pos 0 ∷ pos 0 ∷ pos 0 ∷ pos 1 ∷ pos 0 ∷ pos 0 ∷ pos 0 ∷ pos 0 ∷ pos 0 ∷ pos 0 ∷ pos 0 ∷ pos 0 ∷ pos 1 ∷ pos 1 ∷ []) ∷
    (0, 6, pos 48 ∷ pos 0 ∷ pos 0 ∷ pos 0 ∷ pos 0 ∷ pos 0 ∷ []) ∷
    (8, 1, pos 48 ∷ pos 0 ∷ pos 0 ∷ pos 0 ∷ pos 33 ∷ pos 0 ∷ []) ∷
    (8, 1, pos 1 ∷ pos 0 ∷ pos 0 ∷ pos 0 ∷ negsuc 0 ∷ pos 0 ∷ []) ∷
    (8, 1, pos 1 ∷ pos 0 ∷ pos 0 ∷ pos 33 ∷ pos 33 ∷ pos 0 ∷ []) ∷
    (16, 0, pos 48 ∷ pos 0 ∷ pos 0 ∷ pos 0 ∷ pos 32 ∷ pos 0 ∷ []) ∷
    (16, 0, pos 1 ∷ pos 0 ∷ pos 1 ∷ pos 0 ∷ pos 1 ∷ pos 0 ∷ pos 1 ∷ pos 0 ∷ pos 0 ∷ pos 0 ∷ pos 0 ∷ pos 0 ∷ pos 0 ∷ pos 0 ∷ pos 0 ∷ pos 1 ∷ pos 1 ∷ []) ∷
    (0, 25, pos 1 ∷ pos 0 ∷ pos 1 ∷ pos 0 ∷ pos 1 ∷ pos 0 ∷ pos 1 ∷ pos 0 ∷ pos 0 ∷ pos 0 ∷ pos 0 ∷ pos 0 ∷ pos 0 ∷ pos 0 ∷ pos 0 ∷ pos 1 ∷ pos 1 ∷ pos 1 ∷ negsuc 0 ∷ pos 0 ∷ pos 0 ∷ pos 0 ∷ pos 0 ∷ pos 0 ∷ pos 1 ∷ []) ∷
    (6, 3, pos 1 ∷ pos 0 ∷ pos 1 ∷ pos 0 ∷ pos 1 ∷ pos 0 ∷ pos 1 ∷ pos 0 ∷ pos 0 ∷ pos 0 ∷ pos 0 ∷ pos 0 ∷ pos 0 ∷ pos 0 ∷ pos 0 ∷ pos 17 ∷ pos 1 ∷ pos 0 ∷ pos 0 ∷ pos 0 ∷ pos 0 ∷ pos 0 ∷ pos 0 ∷ pos 0 ∷ pos 0 ∷ []) ∷
    (6, 3, pos 1 ∷ pos 0 ∷ pos 1 ∷ pos 0 ∷ pos 1 ∷ pos 0 ∷ pos 1 ∷ pos 0 ∷ pos 0 ∷ pos 0 ∷ pos 0 ∷ pos 0 ∷ pos 0 ∷ pos 0 ∷ pos 0 ∷ pos 1 ∷ pos 2 ∷ pos 0 ∷ pos 0 ∷ pos 0 ∷ pos 0 ∷ pos 0 ∷ pos 0 ∷ pos 0 ∷ pos 2 ∷ []) ∷
    (10, 3, pos 1 ∷ pos 0 ∷ pos 1 ∷ pos 0 ∷ pos 1 ∷ pos 0 ∷ pos 1 ∷ pos 0 ∷ pos 0 ∷ pos 0 ∷ pos 0 ∷ pos 0 ∷ pos 0 ∷ pos 0 ∷ pos 0 ∷ pos 1 ∷ pos 2 ∷ pos 0 ∷ pos 0 ∷ pos 0 ∷ pos 0 ∷ pos 0 ∷ pos 0 ∷ pos 0 ∷ pos 0 ∷ []) ∷
    (10, 4, pos 1 ∷ pos 0 ∷ pos 1 ∷ pos 1 ∷ pos 1 ∷ pos 0 ∷ pos 1 ∷ pos 0 ∷ pos 0 ∷ pos 0 ∷ pos 0 ∷ pos 0 ∷ pos 0 ∷ pos 0 ∷ pos 0 ∷ pos 1 ∷ pos 1 ∷ pos 2 ∷ pos 1 ∷ pos 0 ∷ pos 0 ∷ pos 0 ∷ pos 0 ∷ pos 0 ∷ pos 0 ∷ pos 0 ∷ pos 0 ∷ []) ∷
    (16, 0, pos 2 ∷ pos 0 ∷ pos 0 ∷ pos 0 ∷ pos 0 ∷ []) ∷
    (8, 1, pos 2 ∷ pos 0 ∷ pos 0 ∷ pos 0 ∷ pos 0 ∷ pos 41 ∷ []) ∷
    (8, 1, pos 2 ∷ pos 0 ∷ pos 0 ∷ pos 0 ∷ pos 0 ∷ negsuc 0 ∷ []) ∷
    (8, 1, pos 2 ∷ pos 0 ∷ pos 0 ∷ pos 0 ∷ pos 41 ∷ pos 0 ∷ []) ∷
    (16, 0, pos 2 ∷ pos 0 ∷ pos 0 ∷ pos 0 ∷ pos 0 ∷ pos 40 ∷ []) ∷
    (0, 17, pos 2 ∷ pos 0 ∷ pos 0 ∷ pos 0 ∷ pos 0 ∷ pos 1 ∷ pos 1 ∷ pos 2 ∷ pos 0 ∷ pos 0 ∷ pos 0 ∷ pos 0 ∷ pos 0 ∷ pos 0 ∷ pos 0 ∷ pos 0 ∷ pos 0 ∷ []) ∷
    (16, 0, pos 2 ∷ pos 0 ∷ pos 0 ∷ pos 0 ∷ pos 1 ∷ pos 0 ∷ pos 1 ∷ pos 2 ∷ pos 0 ∷ pos 0 ∷ pos 0 ∷ pos 0 ∷ pos 0 ∷ pos 0 ∷ pos 0 ∷ pos 0 ∷ pos 0 ∷ []) ∷
    (0, 47, pos 2 ∷ pos 1 ∷ pos 1 ∷ pos 1 ∷ pos 1 ∷ pos 1 ∷ pos 0 ∷ pos 0 ∷ pos 0 ∷ pos 0 ∷ pos 0 ∷ pos 1 ∷ pos 0 ∷ pos 0 ∷ pos 0 ∷ pos 1 ∷ negsuc 1 ∷ pos 0 ∷ pos 1 ∷ pos 0 ∷ pos 0 ∷ pos 0 ∷ pos 0 ∷ pos 0 ∷ pos 0 ∷ pos 0 ∷ pos 1 ∷ pos 0 ∷ pos 0 ∷ pos 0 ∷ pos 0 ∷ pos 0 ∷ pos 0 ∷ pos 0 ∷ pos 0 ∷ pos 1 ∷ pos 1 ∷ pos 1 ∷ pos 1 ∷ pos 0 ∷ pos 0 ∷ pos 0 ∷ pos 0 ∷ pos 0 ∷ pos 0 ∷ pos 0 ∷ pos 0 ∷ []) ∷
    (23, 3, pos 2 ∷ pos 1 ∷ pos 1 ∷ pos 1 ∷ pos 1 ∷ pos 1 ∷ pos 0 ∷ pos 0 ∷ pos 0 ∷ pos 0 ∷ pos 0 ∷ pos 1 ∷ pos 0 ∷ pos 0 ∷ pos 0 ∷ pos 1 ∷ pos 0 ∷ pos 0 ∷ pos 0 ∷ pos 0 ∷ pos 0 ∷ pos 0 ∷ pos 0 ∷ pos 0 ∷ pos 1 ∷ negsuc 1 ∷ pos 3 ∷ pos 0 ∷ pos 0 ∷ pos 0 ∷ pos 0 ∷ pos 0 ∷ pos 0 ∷ pos 0 ∷ pos 0 ∷ pos 1 ∷ pos 1 ∷ pos 1 ∷ pos 1 ∷ pos 0 ∷ pos 0 ∷ pos 0 ∷ pos 0 ∷ pos 0 ∷ pos 0 ∷ pos 0 ∷ pos 0 ∷ []) ∷
    (6, 3, pos 2 ∷ pos 1 ∷ pos 1 ∷ pos 1 ∷ pos 1 ∷ pos 1 ∷ pos 0 ∷ pos 0 ∷ pos 0 ∷ pos 0 ∷ pos 0 ∷ pos 1 ∷ pos 0 ∷ pos 0 ∷ pos 0 ∷ pos 1 ∷ pos 0 ∷ negsuc 2 ∷ pos 0 ∷ pos 0 ∷ pos 0 ∷ pos 0 ∷ pos 0 ∷ pos 0 ∷ pos 0 ∷ pos 0 ∷ pos 1 ∷ pos 0 ∷ pos 0 ∷ pos 0 ∷ pos 0 ∷ pos 0 ∷ pos 0 ∷ pos 0 ∷ pos 0 ∷ pos 1 ∷ pos 1 ∷ pos 1 ∷ pos 1 ∷ pos 0 ∷ pos 0 ∷ pos 0 ∷ pos 0 ∷ pos 0 ∷ pos 0 ∷ pos 0 ∷ pos 0 ∷ []) ∷
    (6, 3, pos 2 ∷ pos 1 ∷ pos 1 ∷ pos 1 ∷ pos 1 ∷ pos 1 ∷ pos 0 ∷ pos 0 ∷ pos 0 ∷ pos 0 ∷ pos 0 ∷ pos 1 ∷ pos 0 ∷ pos 0 ∷ pos 0 ∷ pos 1 ∷ pos 0 ∷ pos 0 ∷ pos 0 ∷ pos 0 ∷ pos 0 ∷ pos 0 ∷ pos 0 ∷ pos 0 ∷ pos 0 ∷ pos 3 ∷ pos 1 ∷ pos 0 ∷ pos 0 ∷ pos 0 ∷ pos 0 ∷ pos 0 ∷ pos 0 ∷ pos 0 ∷ pos 0 ∷ pos 1 ∷ pos 1 ∷ pos 1 ∷ pos 1 ∷ pos 0 ∷ pos 0 ∷ pos 0 ∷ pos 0 ∷ pos 0 ∷ pos 0 ∷ pos 0 ∷ pos 0 ∷ []) ∷
    (23, 3, pos 2 ∷ pos 1 ∷ pos 1 ∷ pos 1 ∷ pos 1 ∷ pos 1 ∷ pos 0 ∷ pos 0 ∷ pos 0 ∷ pos 0 ∷ pos 0 ∷ pos 1 ∷ pos 0 ∷ pos 0 ∷ pos 0 ∷ pos 0 ∷ pos 1 ∷ pos 0 ∷ pos 0 ∷ pos 0 ∷ pos 0 ∷ pos 0 ∷ pos 0 ∷ pos 0 ∷ pos 0 ∷ pos 0 ∷ pos 1 ∷ pos 0 ∷ pos 0 ∷ pos 0 ∷ pos 0 ∷ pos 0 ∷ pos 0 ∷ pos 0 ∷ pos 0 ∷ pos 1 ∷ pos 1 ∷ pos 1 ∷ pos 1 ∷ pos 0 ∷ pos 0 ∷ pos 0 ∷ pos 0 ∷ pos 0 ∷ pos 0 ∷ pos 0 ∷ pos 0 ∷ []) ∷
    (23, 3, pos 2 ∷ pos 1 ∷ pos 1 ∷ pos 1 ∷ pos 1 ∷ pos 1 ∷ pos 0 ∷ pos 0 ∷ pos 0 ∷ pos 0 ∷ pos 0 ∷ pos 1 ∷ pos 0 ∷ pos 0 ∷ pos 0 ∷ pos 0 ∷ pos 0 ∷ pos 0 ∷ pos 1 ∷ pos 2 ∷ pos 0 ∷ pos 0 ∷ pos 0 ∷ pos 0 ∷ pos 0 ∷ pos 0 ∷ pos 0 ∷ pos 0 ∷ pos 0 ∷ pos 0 ∷ pos 0 ∷ pos 0 ∷ pos 0 ∷ pos 0 ∷ pos 0 ∷ pos 1 ∷ pos 1 ∷ pos 1 ∷ pos 1 ∷ pos 0 ∷ pos 0 ∷ pos 0 ∷ pos 0 ∷ pos 0 ∷ pos 0 ∷ pos 0 ∷ pos 0 ∷ []) ∷
    (9, 4, pos 2 ∷ pos 1 ∷ pos 1 ∷ pos 1 ∷ pos 1 ∷ pos 1 ∷ pos 0 ∷ pos 0 ∷ pos 0 ∷ pos 0 ∷ pos 0 ∷ pos 1 ∷ pos 0 ∷ pos 0 ∷ pos 0 ∷ pos 0 ∷ pos 1 ∷ pos 1 ∷ pos 0 ∷ pos 0 ∷ pos 0 ∷ pos 0 ∷ pos 0 ∷ pos 0 ∷ pos 0 ∷ pos 0 ∷ pos 0 ∷ pos 0 ∷ pos 0 ∷ pos 0 ∷ pos 0 ∷ pos 0 ∷ pos 0 ∷ pos 0 ∷ pos 0 ∷ pos 1 ∷ pos 1 ∷ pos 1 ∷ pos 1 ∷ pos 0 ∷ pos 0 ∷ pos 0 ∷ pos 0 ∷ pos 0 ∷ pos 0 ∷ pos 0 ∷ pos 0 ∷ []) ∷ []))
unfolding kinds kind unknown contents fields_of numbers_of most row_once most_rows range_of both pick cons_if some between inside and_then test_field code numbers_in filled_in headless missing unless judged to_nat row_of prepend on_line table_of counts_of front_of all_counts count_at shape_from sum_to layout cut rows_of test_fields row_fault test_row test_rows shape_in miscount test_table
tables-right = tt
