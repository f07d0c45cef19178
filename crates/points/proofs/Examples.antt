-- The worked example of request (h): calls one after the other from an empty store, computed.
use mathlib.Core.Path.{◌≡◌, refl}
use mathlib.Core.Option.{some, none}
use mathlib.Core.List.{List, [], ◌∷◌, ◌++◌}
use Prim.Native.Nat.{ℕ}
use lib.ListN.{replicate}
use Rattle.logic.specs.Tests.{pick, both, either}
use Rattle.sets.specs.declared.Pair.{Pair}
use Rattle.answers.specs.Operations.Told.{told, turned}
use Rattle.entry.specs.Names.{letter, follows, chain, name_spelt, is_name, compare_to, before, same_name}
use Rattle.entry.specs.Bytes.{word_of, digits, entry_row, pair_bytes, pair_of, zeros}
use Rattle.points.specs.Points.{entry_rows, packed, leaves}
use Rattle.points.specs.Stores.{entry_of, entries_of, count_from, entry_count, held_of, store_of, lookup, by_order, set_in, drop_in, if_there, on_store, go_told, set_told, drop_told}
use Rattle.points.specs.Calls.{PointCall, set_point, go_to, drop_point, given, point_answer, left_by, point_answers, left_by_all, empty_store}

abbrev pair : ℕ → ℕ → ℕ → Pair
pair a b c = record { taken = a; held = b; denied = c }

-- The names A, A1, B and C; then A B, with a space inside, and eight spaces.
abbrev name_a : List ℕ
name_a = 65 ∷ 32 ∷ 32 ∷ 32 ∷ 32 ∷ 32 ∷ 32 ∷ 32 ∷ []

abbrev name_a1 : List ℕ
name_a1 = 65 ∷ 49 ∷ 32 ∷ 32 ∷ 32 ∷ 32 ∷ 32 ∷ 32 ∷ []

abbrev name_b : List ℕ
name_b = 66 ∷ 32 ∷ 32 ∷ 32 ∷ 32 ∷ 32 ∷ 32 ∷ 32 ∷ []

abbrev name_c : List ℕ
name_c = 67 ∷ 32 ∷ 32 ∷ 32 ∷ 32 ∷ 32 ∷ 32 ∷ 32 ∷ []

abbrev gapped_name : List ℕ
gapped_name = 65 ∷ 32 ∷ 66 ∷ 32 ∷ 32 ∷ 32 ∷ 32 ∷ 32 ∷ []

abbrev blank_name : List ℕ
blank_name = replicate 8 32

abbrev three : List PointCall
three = set_point name_b (pair 1 5 2) ∷ set_point name_a1 (pair 65535 3 3) ∷ set_point name_a (pair 0 0 281474976710656) ∷ []

abbrev further : List PointCall
further =
    go_to name_a1
    ∷ go_to name_c
    ∷ set_point name_a1 (pair 2 4 8)
    ∷ drop_point name_a
    ∷ drop_point name_a
    ∷ set_point gapped_name (pair 1 1 1)
    ∷ set_point blank_name (pair 1 1 1)
    ∷ drop_point name_b
    ∷ drop_point name_a1
    ∷ []

-- All 1,024 bytes after the first three calls.
pub filled : left_by_all empty_store three ≡ (
    65 ∷ 32 ∷ 32 ∷ 32 ∷ 32 ∷ 32 ∷ 32 ∷ 32 ∷ 0 ∷ 0 ∷ 0 ∷ 0 ∷ 0 ∷ 0 ∷ 0 ∷ 0 ∷ 0 ∷ 0 ∷ 0 ∷ 0 ∷ 0 ∷ 0 ∷ 0 ∷ 0 ∷ 0 ∷ 0 ∷ 0 ∷ 0 ∷ 0 ∷ 0 ∷ 1 ∷ 0
    ∷ 65 ∷ 49 ∷ 32 ∷ 32 ∷ 32 ∷ 32 ∷ 32 ∷ 32 ∷ 255 ∷ 255 ∷ 0 ∷ 0 ∷ 0 ∷ 0 ∷ 0 ∷ 0 ∷ 3 ∷ 0 ∷ 0 ∷ 0 ∷ 0 ∷ 0 ∷ 0 ∷ 0 ∷ 3 ∷ 0 ∷ 0 ∷ 0 ∷ 0 ∷ 0 ∷ 0 ∷ 0
    ∷ 66 ∷ 32 ∷ 32 ∷ 32 ∷ 32 ∷ 32 ∷ 32 ∷ 32 ∷ 1 ∷ 0 ∷ 0 ∷ 0 ∷ 0 ∷ 0 ∷ 0 ∷ 0 ∷ 5 ∷ 0 ∷ 0 ∷ 0 ∷ 0 ∷ 0 ∷ 0 ∷ 0 ∷ 2 ∷ 0 ∷ 0 ∷ 0 ∷ 0 ∷ 0 ∷ 0 ∷ 0 ∷ []) ++ replicate 928 0
unfolding letter follows chain name_spelt is_name compare_to before same_name word_of digits pair_bytes pair_of entry_row zeros entry_rows packed entry_of entries_of count_from entry_count held_of store_of lookup by_order set_in drop_in if_there on_store go_told set_told drop_told leaves given point_answer left_by point_answers left_by_all empty_store pick both either
filled = refl

-- Every answer, and an empty store at the end.
pub answered : point_answers empty_store (three ++ further) ≡
    told none ∷ told none ∷ told none ∷ told (some (pair 65535 3 3)) ∷ turned 25 0 ∷ told none ∷ told none ∷ turned 25 0 ∷ turned 25 0 ∷ turned 25 0 ∷ told none ∷ told none ∷ []
unfolding letter follows chain name_spelt is_name compare_to before same_name word_of digits pair_bytes pair_of entry_row zeros entry_rows packed entry_of entries_of count_from entry_count held_of store_of lookup by_order set_in drop_in if_there on_store go_told set_told drop_told leaves given point_answer left_by point_answers left_by_all empty_store pick both either
answered = refl

pub emptied : left_by_all empty_store (three ++ further) ≡ empty_store
unfolding letter follows chain name_spelt is_name compare_to before same_name word_of digits pair_bytes pair_of entry_row zeros entry_rows packed entry_of entries_of count_from entry_count held_of store_of lookup by_order set_in drop_in if_there on_store go_told set_told drop_told leaves given point_answer left_by point_answers left_by_all empty_store pick both either
emptied = refl
