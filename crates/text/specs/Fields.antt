-- A field of 4 columns (document 01, 'A book and its lines'): "a whole number right-justified after spaces, no plus sign, no leading
-- zero, no "-0""; and in which of three ways any other field is misspelt (document 02 (d)). Bytes are ASCII: 32 is a space, 45 a minus,
-- 48 to 57 are the digits.
use Rattle.std.specs.Prelude.{ℕ, zero, suc, ◌+◌, ◌-◌, ◌*◌, ◌/◌, ◌%◌, ◌^◌, ◌<◌, Bool, true, false, not, List, [], ◌∷◌, ◌++◌, ◌≡◌, eqb, ltb, leb, ℤ, pos, negsuc, neg_ℤ, get_or, Result, Ok, Err}
use Rattle.logic.specs.Tests.{both, either, pick, every}

-- The byte in the column worth `scale` (a power of 10) of a number of size m: from the number's first digit on, and always in the
-- last column, a digit; directly before them a minus, if the number is negative; else a space.
unfoldable pub column_of : Bool → ℕ → ℕ → ℕ
column_of neg m scale = pick (either (eqb scale 1) (leb scale m)) (48 + m / scale % 10) (pick (both neg (leb scale (m * 10))) 45 32)

-- The w columns of a number of size m, below 10 ^ w, negative or not, right-justified; and the four columns of a field.
unfoldable pub in_columns : ℕ → Bool → ℕ → List ℕ
in_columns zero neg m = []
in_columns (suc w) neg m = column_of neg m (10 ^ w) ∷ in_columns w neg m

unfoldable pub columns : Bool → ℕ → List ℕ
columns neg m = in_columns 4 neg m

-- How a number from -999 to 9999 is written.
unfoldable pub written : ℤ → List ℕ
written (pos m) = columns false m
written (negsuc m) = columns true (suc m)

-- How numbers are written, field after field.
unfoldable pub written_all : List ℤ → List ℕ
written_all [] = []
written_all (v ∷ vs) = written v ++ written_all vs

-- The digit that a byte is; 0 for every other byte.
unfoldable pub digit_of : ℕ → ℕ
digit_of b = pick (ltb b 48) 0 (pick (ltb 57 b) 0 (b - 48))

-- The size of the number that the digits of four columns make.
unfoldable pub size_of : ℕ → ℕ → ℕ → ℕ → ℕ
size_of a b c d = digit_of a * 1000 + digit_of b * 100 + digit_of c * 10 + digit_of d

-- A minus stands in one of the first three columns.
unfoldable pub minus_in : ℕ → ℕ → ℕ → Bool
minus_in a b c = either (eqb a 45) (either (eqb b 45) (eqb c 45))

-- The number of this sign and size.
unfoldable pub signed : Bool → ℕ → ℤ
signed true m = neg_ℤ (pos m)
signed false m = pos m

-- Two lists of bytes are the same.
unfoldable pub same : List ℕ → List ℕ → Bool
same [] [] = true
same [] (y ∷ ys) = false
same (x ∷ xs) [] = false
same (x ∷ xs) (y ∷ ys) = both (eqb x y) (same xs ys)

-- ---- misspelt fields: 5, 17, 18 (document 02 (d))
-- A byte is a space, a minus, a digit.
unfoldable pub is_space : ℕ → Bool
is_space b = eqb b 32

unfoldable pub is_minus : ℕ → Bool
is_minus b = eqb b 45

unfoldable pub is_digit : ℕ → Bool
is_digit b = both (leb 48 b) (leb b 57)

-- Some byte passes a test of it between the bytes directly before and directly after it. The byte before the first is given; after the
-- last there is none: 0, neither space, minus nor digit, stands for it.
unfoldable pub some_from : (ℕ → ℕ → ℕ → Bool) → ℕ → List ℕ → Bool
some_from f before [] = false
some_from f before (b ∷ bs) = either (f before b (get_or bs 0 0)) (some_from f b bs)

-- The same of a field: neighbours are looked for inside of it only.
unfoldable pub some_byte : (ℕ → ℕ → ℕ → Bool) → List ℕ → Bool
some_byte f bs = some_from f 0 bs

-- 5: "a byte other than space, digit or minus, or a minus directly after a digit or not directly before one".
unfoldable pub other_byte : ℕ → Bool
other_byte b = not (either (is_space b) (either (is_digit b) (is_minus b)))

unfoldable pub stray_byte : ℕ → ℕ → ℕ → Bool
stray_byte before b after = either (other_byte b) (both (is_minus b) (either (is_digit before) (not (is_digit after))))

unfoldable pub stray : List ℕ → Bool
stray bs = some_byte stray_byte bs

-- 17: "the field is blank or a space follows a digit".
unfoldable pub space_after_digit : ℕ → ℕ → ℕ → Bool
space_after_digit before b after = both (is_digit before) (is_space b)

unfoldable pub gapped : List ℕ → Bool
gapped bs = either (every is_space bs) (some_byte space_after_digit bs)

-- 18: "it has a leading zero or is "-0"". A leading zero: no digit is directly before it, and one is directly after it.
unfoldable pub leading_zero : ℕ → ℕ → ℕ → Bool
leading_zero before b after = both (not (is_digit before)) (both (eqb b 48) (is_digit after))

unfoldable pub wrong_zero : List ℕ → Bool
wrong_zero bs = either (some_byte leading_zero bs) (same bs (32 ∷ 32 ∷ 45 ∷ 48 ∷ []))

-- The refusal of a misspelt field: 5; 17 "when, failing that"; 18 "when, failing both"; 0 where none of the three applies.
unfoldable pub misspelling : List ℕ → ℕ
misspelling bs = pick (stray bs) 5 (pick (gapped bs) 17 (pick (wrong_zero bs) 18 0))

-- The same as propositions: the field meets this refusal.
pub data Misspells (bs : List ℕ) : ℕ → Type 0 where
  is_stray : stray bs ≡ true → Misspells bs 5
  is_gapped : stray bs ≡ false → gapped bs ≡ true → Misspells bs 17
  is_wrong_zero : stray bs ≡ false → gapped bs ≡ false → wrong_zero bs ≡ true → Misspells bs 18

-- ---- a field read
-- A number that four columns can hold, from -999 to 9999; and a field that is well spelt: how such a number is written.
unfoldable pub Short : ℤ → Type 0
Short (pos m) = m < 10000
Short (negsuc m) = m < 999

pub record WellSpelt (bs : List ℕ) : Type 0 where
  pub number : ℤ
  pub short : Short number
  pub spelling : written number ≡ bs

-- Columns that are how the number of this sign and size is written have that number; all others are misspelt, by the refusal that they meet.
unfoldable pub read_columns : Bool → ℕ → List ℕ → Result ℤ ℕ
read_columns neg m bs = pick (same (columns neg m) bs) (Ok (signed neg m)) (Err (misspelling bs))

-- Four columns are how the number of their sign and size is written.
abbrev pub is_number : ℕ → ℕ → ℕ → ℕ → Bool
is_number a b c d = same (columns (minus_in a b c) (size_of a b c d)) (a ∷ b ∷ c ∷ d ∷ [])

-- What four columns are: the number that they are how to write, or misspelt.
unfoldable pub spelt : ℕ → ℕ → ℕ → ℕ → Result ℤ ℕ
spelt a b c d = read_columns (minus_in a b c) (size_of a b c d) (a ∷ b ∷ c ∷ d ∷ [])

-- The field in front of the bytes.
unfoldable pub first_field : List ℕ → Result ℤ ℕ
first_field bs = spelt (get_or bs 0 0) (get_or bs 1 0) (get_or bs 2 0) (get_or bs 3 0)
