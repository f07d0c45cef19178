-- Fields and numbers stored into a lent buffer: one lemma a return, and the fields of a run of numbers as pieces.
use mathlib.Core.Path.{◌≡◌, refl, ◌∙◌}
use mathlib.Core.Bool.{Bool}
use mathlib.Core.List.{List}
use Prim.Native.Nat.{ℕ, zero, suc, ◌+◌, ◌<◌, ◌≤◌}
use native.Mathlib.Omega.{arith}
use Rattle.std.specs.Prelude.{unsigned_abs}
use lib.IntN.{ℤ, pos, negsuc, nat_abs}
use lib.Signed.{mag, lt_z}
use lib.ListN.{length, get_or, take, drop, set}
use lib.Seq.{sets, drop-cons, get_or-take, get_or-drop}
use borrow.Author.Tests.{le-ltb}
use Rattle.logic.proofs.Stores.{pieces}
use Rattle.text.specs.Fields.{column_of, columns, written, written_all, in_columns, Short}
use Rattle.fields.specs.Short.{all_short}
use Rattle.fields.proofs.Columns.{back, back-same}

pub four : (l : List ℕ) (i m : ℕ) (neg : Bool) (a b c d : ℕ) → a ≡ column_of neg m 1000 → b ≡ column_of neg m 100 → c ≡ column_of neg m 10 → d ≡ column_of neg m 1
    → set (set (set (set l i a) (i + 1) b) (i + 2) c) (i + 3) d ≡ sets l i (columns neg m)
unfolding columns in_columns
four l i m neg a b c d ea eb ec ed =
    let e1 : i + 1 ≡ suc i = omega arith in
    let e2 : i + 2 ≡ suc (suc i) = omega arith in
    let e3 : i + 3 ≡ suc (suc (suc i)) = omega arith in
    rw (e1, e2, e3, ea, eb, ec, ed)

-- ---- a number's sign and size
pub short-mag : (v : ℤ) → Short v → mag v < 10000
unfolding Short
short-mag (pos m) h = h
short-mag (negsuc m) h = omega arith

-- The sign and the size of a number make its columns.
pub number_is : (v : ℤ) → Short v → (m : ℕ) → m ≡ unsigned_abs (back v) → (m < 10000) × (columns (lt_z (back v) (pos 0)) m ≡ written v)
unfolding Short written
number_is (pos n) h m e = rw (back-same (pos n) (omega arith)) (let p : m ≡ n = e ∙ rw (back-same (pos n) (omega arith)) in (omega arith, rw (p, le-ltb n 0 (omega arith))))
number_is (negsuc n) h m e = rw (back-same (negsuc n) (omega arith)) (let p : m ≡ suc n = e ∙ rw (back-same (negsuc n) (omega arith)) in (omega arith, rw p))

-- ---- a run of fields
-- The field of number from + i of a slice.
abbrev pub field_at : List ℤ → ℕ → ℕ → List ℕ
field_at t from i = written (get_or t (from + i) (pos 0))

pub fields-are : (t : List ℤ) (from w k i : ℕ) → k ≡ from + i → k + w ≤ length t → written_all (take w (drop k t)) ≡ pieces (field_at t from) i w
unfolding written_all pieces
fields-are t from zero k i e h = refl
fields-are t from (suc w) k i e h = rw (drop-cons t k (pos 0) (omega arith), fields-are t from w (suc k) (suc i) (omega arith) (omega arith), e)

-- Number i of the part that is put is number from + i of the slice.
pub short_back : (t : List ℤ) (from w i : ℕ) (v : ℤ) → all_short (take w (drop from t)) → i < w → v ≡ get_or t (from + i) (pos 0) → mag v < 2147483648 → Short (back v)
unfolding all_short
short_back t from w i v h l e b = rw (back-same v b, e) (rw (get_or-take w (drop from t) i (pos 0) l, get_or-drop from t i (pos 0)) at (h i))
