-- Fields: what is written is read back, and what is read as a number is how that number is written.
-- The first by one computed test of all numbers of four columns; the second by the definition, which compares with the written form.
use mathlib.Core.Path.{◌≡◌, refl, ◌∙◌}
use mathlib.Core.Bool.{Bool, true, false}
use mathlib.Core.List.{List, [], ◌∷◌, ◌++◌}
use Prim.Native.Nat.{ℕ, zero, suc}
use native.Mathlib.Omega.{arith}
use lib.Dec.{eqb}
use lib.IntN.{ℤ, pos, negsuc}
use lib.ListN.{length, drop}
use borrow.Author.Tests.{eqb-true}
use Rattle.std.specs.Prelude.{Result, Ok, Err}
use Rattle.logic.specs.Tests.{both, either, pick}
use Rattle.text.specs.Fields.{column_of, columns, written, digit_of, size_of, minus_in, signed, same, read_columns, spelt, first_field, misspelling, in_columns, Short}
use Rattle.logic.proofs.Tests.{both_left, both_right, all, all-at}

pub same-eq : (xs ys : List ℕ) → same xs ys ≡ true → xs ≡ ys
unfolding same
same-eq [] [] e = refl
same-eq [] (y ∷ ys) e = absurd (let z : ◌≡◌ {A = ℕ} 0 1 = cc in omega arith)
same-eq (x ∷ xs) [] e = absurd (let z : ◌≡◌ {A = ℕ} 0 1 = cc in omega arith)
same-eq (x ∷ xs) (y ∷ ys) e = rw (eqb-true x y (both_left (eqb x y) (same xs ys) e), same-eq xs ys (both_right (eqb x y) (same xs ys) e))

-- ---- all numbers of four columns, computed
abbrev is_pos : ℤ → ℕ → Bool
is_pos (pos m) n = eqb m n
is_pos (negsuc m) n = false

abbrev is_neg : ℤ → ℕ → Bool
is_neg (pos m) n = false
is_neg (negsuc m) n = eqb m n

abbrev is : (ℤ → Bool) → Result ℤ ℕ → Bool
is f (Ok z) = f z
is f (Err q) = false

abbrev trip_pos : ℕ → Bool
trip_pos v = is (λ z. is_pos z v) (first_field (written (pos v)))

abbrev trip_neg : ℕ → Bool
trip_neg v = is (λ z. is_neg z v) (first_field (written (negsuc v)))

test-pos : all trip_pos 10000 ≡ true
unfolding first_field column_of columns in_columns written digit_of size_of minus_in signed same read_columns spelt both either pick
test-pos = refl

test-neg : all trip_neg 999 ≡ true
unfolding first_field column_of columns in_columns written digit_of size_of minus_in signed same read_columns spelt both either pick
test-neg = refl

is_pos_lem : (x : Result ℤ ℕ) (v : ℕ) → is (λ z. is_pos z v) x ≡ true → x ≡ Ok (pos v)
is_pos_lem (Ok (pos m)) v e = rw (eqb-true m v e)
is_pos_lem (Ok (negsuc m)) v e = absurd (let z : ◌≡◌ {A = ℕ} 0 1 = cc in omega arith)
is_pos_lem (Err q) v e = absurd (let z : ◌≡◌ {A = ℕ} 0 1 = cc in omega arith)

is-neg : (x : Result ℤ ℕ) (v : ℕ) → is (λ z. is_neg z v) x ≡ true → x ≡ Ok (negsuc v)
is-neg (Ok (negsuc m)) v e = rw (eqb-true m v e)
is-neg (Ok (pos m)) v e = absurd (let z : ◌≡◌ {A = ℕ} 0 1 = cc in omega arith)
is-neg (Err q) v e = absurd (let z : ◌≡◌ {A = ℕ} 0 1 = cc in omega arith)

field-read : (v : ℤ) → Short v → first_field (written v) ≡ Ok v
unfolding Short
field-read (pos m) h = is_pos_lem _ m (all-at trip_pos 10000 m test-pos h)
field-read (negsuc m) h = is-neg _ m (all-at trip_neg 999 m test-neg h)

first_field_lem : (v : ℤ) (bs : List ℕ) → first_field (written v ++ bs) ≡ first_field (written v)
unfolding first_field written columns in_columns
first_field_lem (pos m) bs = refl
first_field_lem (negsuc m) bs = refl

-- the written field reads as its number, whatever follows
pub read-written : (v : ℤ) (bs : List ℕ) → Short v → first_field (written v ++ bs) ≡ Ok v
read-written v bs h = first_field_lem v bs ∙ field-read v h

pub field-length : (v : ℤ) → length (written v) ≡ 4
unfolding written columns in_columns
field-length (pos m) = refl
field-length (negsuc m) = refl

pub drop-field : (v : ℤ) (bs : List ℕ) → drop 4 (written v ++ bs) ≡ bs
unfolding written columns in_columns
drop-field (pos m) bs = refl
drop-field (negsuc m) bs = refl

-- ---- the other way
signed-columns : (neg : Bool) (m : ℕ) → written (signed neg m) ≡ columns neg m
unfolding written columns in_columns column_of signed both either pick
signed-columns false m = refl
signed-columns true zero = refl
signed-columns true (suc m) = refl

value_of : (neg : Bool) (m : ℕ) (bs : List ℕ) (v : ℤ) → read_columns neg m bs ≡ Ok v → written v ≡ bs
unfolding read_columns pick
value_of neg m bs v e = go (same (columns neg m) bs) refl e
  where
    go : (b : Bool) → same (columns neg m) bs ≡ b → pick b (Ok (signed neg m)) (Err (misspelling bs)) ≡ Ok v → written v ≡ bs
    go true p e = let q : signed neg m ≡ v = cc in rw (← q, signed-columns neg m) (same-eq (columns neg m) bs p)
    go false p e = absurd (let z : ◌≡◌ {A = ℕ} 0 1 = cc in omega arith)

-- columns that read as a number are how it is written
pub written_read : (a b c d : ℕ) (v : ℤ) → spelt a b c d ≡ Ok v → written v ≡ a ∷ b ∷ c ∷ d ∷ []
unfolding spelt
written_read a b c d v e = value_of _ _ _ v e
