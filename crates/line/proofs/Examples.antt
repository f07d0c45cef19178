-- Lines computed from the definition: the two that document 01 prints for K7, a book of 2 exceptions, "A   1   1   0 .. 0+.+" and
-- "A   1   2   0 .. 0.+."; and where the longer form begins (document 02, (c)).
use mathlib.Core.Path.{◌≡◌, refl}
use mathlib.Core.List.{List, [], ◌∷◌, ◌++◌}
use Prim.Native.Nat.{ℕ}
use lib.ListN.{replicate}
use Rattle.logic.specs.Tests.{both, either, pick, keep, cons_if, concat_map}
use Rattle.sets.specs.Sets.{member, size_to, size}
use Rattle.text.specs.Fields.{column_of, columns, written, written_all, in_columns}
use Rattle.text.specs.ALines.{from, line_fields, taken_fields, mark, a_line}

-- Three spaces before a digit.
abbrev digit : ℕ → List ℕ
digit d = 32 ∷ 32 ∷ 32 ∷ d ∷ []

-- The line with these marks of the pair that takes the exception with this digit, and so many fields after it.
abbrev printed : ℕ → ℕ → List ℕ → List ℕ
printed d rest marks = 65 ∷ (digit 49 ++ (digit d ++ (concat_map digit (replicate rest 48) ++ (marks ++ (10 ∷ [])))))

first-line : a_line (line_fields 2) 3 (record { taken = 1; held = 5; denied = 0 }) ≡ printed 49 11 (43 ∷ 46 ∷ 43 ∷ [])
unfolding a_line written_all written columns in_columns column_of both either pick size size_to line_fields taken_fields keep cons_if from member mark concat_map
first-line = refl

second-line : a_line (line_fields 2) 3 (record { taken = 2; held = 2; denied = 0 }) ≡ printed 50 11 (46 ∷ 43 ∷ 46 ∷ [])
unfolding a_line written_all written columns in_columns column_of both either pick size size_to line_fields taken_fields keep cons_if from member mark concat_map
second-line = refl

-- The first of them in a book of 12 exceptions, and in one of 13.
short-line : a_line (line_fields 12) 3 (record { taken = 1; held = 5; denied = 0 }) ≡ printed 49 11 (43 ∷ 46 ∷ 43 ∷ [])
unfolding a_line written_all written columns in_columns column_of both either pick size size_to line_fields taken_fields keep cons_if from member mark concat_map
short-line = refl

long-line : a_line (line_fields 13) 3 (record { taken = 1; held = 5; denied = 0 }) ≡ printed 49 15 (43 ∷ 46 ∷ 43 ∷ [])
unfolding a_line written_all written columns in_columns column_of both either pick size size_to line_fields taken_fields keep cons_if from member mark concat_map
long-line = refl
