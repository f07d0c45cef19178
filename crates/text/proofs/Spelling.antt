-- Misspelt fields (document 02 (d)): four columns are well spelt exactly where none of the three refusals applies, no field meets two of
-- them, and reading gives the number or the refusal accordingly. By one computed test of all fields of spaces, minus signs and digits; a
-- field with any other byte meets 5, and no number is written with one.
use mathlib.Core.Path.{◌≡◌, refl, sym, ap, ◌∙◌}
use mathlib.Core.Bool.{Bool, true, false, not}
use mathlib.Core.List.{List, [], ◌∷◌}
use mathlib.Core.Logic.{◌↔◌}
use Prim.Native.Nat.{ℕ, zero, suc, ◌+◌, ◌-◌, ◌*◌, ◌/◌, ◌%◌, ◌^◌, ◌<◌, ◌≤◌}
use native.Mathlib.Nat.{mod-lt}
use native.Mathlib.Omega.{arith}
use lib.Dec.{eqb, ltb, leb}
use lib.IntN.{ℤ}
use lib.ListN.{get_or}
use borrow.Author.Tests.{eqb-true, leb-true, le-leb, ltb-true}
use Rattle.std.specs.Prelude.{Result, Ok, Err}
use Rattle.logic.specs.Tests.{both, either, pick, every, some}
use Rattle.logic.proofs.Decide.{clash}
use Rattle.logic.proofs.Tests.{both_left, both_right, either_true, agreed, all, all-at}
use Rattle.text.specs.Fields.{column_of, in_columns, columns, written, digit_of, size_of, minus_in, signed, same, is_space, is_minus, is_digit, some_from, some_byte, other_byte, stray_byte, stray, space_after_digit, gapped, leading_zero, wrong_zero, misspelling, Misspells, is_stray, is_gapped, is_wrong_zero, Short, WellSpelt, read_columns, is_number, spelt, first_field}
use Rattle.text.proofs.Fields.{same-eq, read-written, written_read}

-- ---- the refusals of any bytes
-- The refusal that they meet is the one that `misspelling` gives, and that is 0 where they meet none.
misspells-is : (bs : List ℕ) (q : ℕ) → Misspells bs q → misspelling bs ≡ q
unfolding misspelling pick
misspells-is bs q (is_stray e) = rw e
misspells-is bs q (is_gapped e f) = rw (e, f)
misspells-is bs q (is_wrong_zero e f g) = rw (e, f, g)

misspells-some : (bs : List ℕ) (q : ℕ) → Misspells bs q → eqb q 0 ≡ false
misspells-some bs q (is_stray e) = refl
misspells-some bs q (is_gapped e f) = refl
misspells-some bs q (is_wrong_zero e f g) = refl

meets : (bs : List ℕ) → eqb (misspelling bs) 0 ≡ false → Misspells bs (misspelling bs)
unfolding misspelling pick
meets bs e = go (stray bs) refl (gapped bs) refl (wrong_zero bs) refl e
  where
    go : (s : Bool) → stray bs ≡ s → (g : Bool) → gapped bs ≡ g → (z : Bool) → wrong_zero bs ≡ z → eqb (pick s 5 (pick g 17 (pick z 18 0))) 0 ≡ false
        → Misspells bs (pick s 5 (pick g 17 (pick z 18 0)))
    go true p g q z r e = is_stray p
    go false p true q z r e = is_gapped p q
    go false p false q true r e = is_wrong_zero p q r
    go false p false q false r e = absurd (clash (sym e))

-- Bytes that meet a refusal, but neither 5 nor 17, meet 18.
meets-last : (bs : List ℕ) (q : ℕ) → Misspells bs q → stray bs ≡ false → gapped bs ≡ false → q ≡ 18
meets-last bs q (is_stray x) f g = absurd (clash (sym f ∙ x))
meets-last bs q (is_gapped x y) f g = absurd (clash (sym g ∙ y))
meets-last bs q (is_wrong_zero x y z) f g = refl

-- No field meets two.
pub one-misspelling : (bs : List ℕ) (q r : ℕ) → Misspells bs q → Misspells bs r → q ≡ r
one-misspelling bs q r x y = sym (misspells-is bs q x) ∙ misspells-is bs r y

-- ---- "a space follows a digit"
-- A space stands after a digit, directly or later.
unfoldable pub space_later : List ℕ → Bool
space_later [] = false
space_later (b ∷ bs) = either (both (is_digit b) (some is_space bs)) (space_later bs)

-- Where 5 does not apply, what stands directly after a digit is a digit or a space.
digit-next : (before b after : ℕ) → stray_byte before b after ≡ false → is_digit before ≡ true → is_space b ≡ false → is_digit b ≡ true
unfolding stray_byte other_byte both either
digit-next before b after e f g = go (is_digit b) (is_minus b) (rw (f, g) at e)
  where
    go : (d m : Bool) → either (not (either d m)) (both m true) ≡ false → d ≡ true
    go true m e = refl
    go false true e = absurd (clash (sym e))
    go false false e = absurd (clash (sym e))

-- One byte more: u says that a space stands after b, v that one stands after a later digit.
later_more : (before b after : ℕ) (u v : Bool) → stray_byte before b after ≡ false
    → either (both (is_digit before) (is_space b)) (either (both (is_digit b) u) v) ≡ either (both (is_digit before) (elim (is_space b) [ true ↦ true | false ↦ u ])) (either (both (is_digit b) u) v)
unfolding both either
later_more before b after u v e = go (is_digit before) refl (is_space b) refl
  where
    twice : (t : Bool) → either t v ≡ either t (either t v)
    twice true = refl
    twice false = refl

    go : (p : Bool) → is_digit before ≡ p → (s : Bool) → is_space b ≡ s
        → either (both p s) (either (both (is_digit b) u) v) ≡ either (both p (elim s [ true ↦ true | false ↦ u ])) (either (both (is_digit b) u) v)
    go false q s r = refl
    go true q true r = refl
    go true q false r = rw (digit-next before b after e q r) (twice u)

neither : (x y : Bool) → either x y ≡ false → (x ≡ false) × (y ≡ false)
unfolding either
neither true y e = absurd (clash (sym e))
neither false y e = (refl, e)

later-from : (before : ℕ) (bs : List ℕ) → some_from stray_byte before bs ≡ false
    → some_from space_after_digit before bs ≡ either (both (is_digit before) (some is_space bs)) (space_later bs)
unfolding some_from space_after_digit space_later some both either
later-from before [] e = none (is_digit before)
  where
    none : (t : Bool) → false ≡ either (both t false) false
    none true = refl
    none false = refl
later-from before (b ∷ bs) e =
    let f = neither (stray_byte before b (get_or bs 0 0)) (some_from stray_byte b bs) e in
    rw (later-from b bs f.1) (later_more before b (get_or bs 0 0) (some is_space bs) (space_later bs) f.0)

-- Directly or later is the same, where 5 does not apply.
pub follows-later : (bs : List ℕ) → stray bs ≡ false → some_byte space_after_digit bs ≡ space_later bs
unfolding stray some_byte is_digit both either
follows-later bs e = later-from 0 bs e

-- ---- all fields of spaces, minus signs and digits, computed
-- The twelve bytes, by number.
abbrev byte : ℕ → ℕ
byte zero = 32
byte (suc zero) = 45
byte (suc (suc k)) = 48 + k

-- The number of their sign and size fits four columns.
abbrev fits : ℕ → ℕ → ℕ → ℕ → Bool
fits a b c d = ltb (size_of a b c d) (pick (minus_in a b c) 1000 10000)

-- If the columns are a number's, they meet no refusal and the number fits; if not, they meet one.
abbrev agrees : Bool → ℕ → Bool → Bool
agrees true q f = both (eqb q 0) f
agrees false q f = not (eqb q 0)

abbrev told : ℕ → ℕ → ℕ → ℕ → Bool
told a b c d = agrees (is_number a b c d) (misspelling (a ∷ b ∷ c ∷ d ∷ [])) (fits a b c d)

abbrev told-3 : ℕ → ℕ → ℕ → Bool
told-3 a b c = all (λ (k : ℕ). told a b c (byte k)) 12

abbrev told-2 : ℕ → ℕ → Bool
told-2 a b = all (λ (k : ℕ). told-3 a b (byte k)) 12

abbrev told-1 : ℕ → Bool
told-1 a = all (λ (k : ℕ). told-2 a (byte k)) 12

test : all (λ (k : ℕ). told-1 (byte k)) 12 ≡ true
unfolding column_of in_columns columns digit_of size_of minus_in same is_space is_minus is_digit some_from some_byte other_byte stray_byte stray space_after_digit gapped leading_zero wrong_zero misspelling both either pick every
test = refl

-- ---- the bytes that the test does not know
-- A byte that is no other byte is one of the twelve.
twelve : (b : ℕ) → other_byte b ≡ false → (k : ℕ) × (k < 12) × (byte k ≡ b)
unfolding other_byte is_space is_minus is_digit both either
twelve b e = go (eqb b 32) refl (eqb b 45) refl (leb 48 b) refl (leb b 57) refl e
  where
    go : (s : Bool) → eqb b 32 ≡ s → (m : Bool) → eqb b 45 ≡ m → (l : Bool) → leb 48 b ≡ l → (h : Bool) → leb b 57 ≡ h
        → not (either s (either (both l h) m)) ≡ false → (k : ℕ) × (k < 12) × (byte k ≡ b)
    go true p m q l r h t e = (0, omega arith, sym (eqb-true b 32 p))
    go false p true q l r h t e = (1, omega arith, sym (eqb-true b 45 q))
    go false p false q true r true t e = (suc (suc (b - 48)), omega (arith, leb-true b 57 t, leb-true 48 b r), omega (arith, leb-true 48 b r))
    go false p false q true r false t e = absurd (clash (sym e))
    go false p false q false r h t e = absurd (clash (sym e))

-- No number is written with another byte.
digit-known : (b : ℕ) → 48 ≤ b → b ≤ 57 → other_byte b ≡ false
unfolding other_byte is_digit both either
digit-known b h g = rw (le-leb 48 b h, le-leb b 57 g, either_true (is_space b))

column-known : (neg : Bool) (m s : ℕ) → other_byte (column_of neg m s) ≡ false
unfolding column_of pick other_byte is_space is_minus is_digit both either
column-known neg m s = go (either (eqb s 1) (leb s m)) (both neg (leb s (m * 10)))
  where
    go : (t u : Bool) → other_byte (pick t (48 + m / s % 10) (pick u 45 32)) ≡ false
    go true u = digit-known (48 + m / s % 10) (omega arith) (omega (arith, mod-lt (m / s) {m = 10} (omega arith)))
    go false true = refl
    go false false = refl

columns-known : (w : ℕ) (neg : Bool) (m : ℕ) → some other_byte (in_columns w neg m) ≡ false
unfolding in_columns some
columns-known zero neg m = refl
columns-known (suc w) neg m = ap (λ (t : Bool). elim t [ true ↦ true | false ↦ some other_byte (in_columns w neg m) ]) (column-known neg m (10 ^ w)) ∙ columns-known w neg m

-- A field with another byte meets 5.
other-stray : (before : ℕ) (bs : List ℕ) → some other_byte bs ≡ true → some_from stray_byte before bs ≡ true
unfolding some some_from stray_byte either
other-stray before [] e = absurd (clash e)
other-stray before (b ∷ bs) e = go (other_byte b) refl (other-stray b bs) e
  where
    go : (t : Bool) → other_byte b ≡ t → (some other_byte bs ≡ true → some_from stray_byte b bs ≡ true) → elim t [ true ↦ true | false ↦ some other_byte bs ] ≡ true
        → some_from stray_byte before (b ∷ bs) ≡ true
    go true p ih e = rw p
    go false p ih e = rw (ih e) (either_true (stray_byte before b (get_or bs 0 0)))

none_other : (x : ℕ) (xs : List ℕ) → some other_byte (x ∷ xs) ≡ false → (other_byte x ≡ false) × (some other_byte xs ≡ false)
unfolding some
none_other x xs e = go (other_byte x) refl e
  where
    go : (t : Bool) → other_byte x ≡ t → elim t [ true ↦ true | false ↦ some other_byte xs ] ≡ false → (other_byte x ≡ false) × (some other_byte xs ≡ false)
    go true p e = absurd (clash (sym e))
    go false p e = (p, e)

-- ---- four columns
signed-short : (neg : Bool) (m : ℕ) → ltb m (pick neg 1000 10000) ≡ true → Short (signed neg m)
unfolding Short signed pick
signed-short false m e = ltb-true m 10000 e
signed-short true zero e = omega arith
signed-short true (suc m) e = omega (arith, ltb-true (suc m) 1000 e)

module _ (a b c d : ℕ) where
  abbrev four : List ℕ
  four = a ∷ b ∷ c ∷ d ∷ []

  abbrev number : ℤ
  number = signed (minus_in a b c) (size_of a b c d)

  -- Of the twelve bytes: by the test.
  tested : some other_byte four ≡ false → told a b c d ≡ true
  tested e =
      let f = none_other a _ e in
      let g = none_other b _ f.1 in
      let h = none_other c _ g.1 in
      let x = twelve a f.0 in
      let y = twelve b g.0 in
      let z = twelve c h.0 in
      let w = twelve d (none_other d [] h.1).0 in
      rw (x.2, y.2, z.2, w.2) at
      (all-at (λ (k : ℕ). told (byte x.0) (byte y.0) (byte z.0) (byte k)) 12 w.0
      (all-at (λ (k : ℕ). told-3 (byte x.0) (byte y.0) (byte k)) 12 z.0
      (all-at (λ (k : ℕ). told-2 (byte x.0) (byte k)) 12 y.0 (all-at (λ (k : ℕ). told-1 (byte k)) 12 x.0 test x.1) y.1) z.1) w.1)

  -- With another byte: they meet 5, and are no number's.
  other-meets : some other_byte four ≡ true → misspelling four ≡ 5
  unfolding misspelling stray some_byte pick
  other-meets e = rw (other-stray 0 four e)

  number-known : is_number a b c d ≡ true → some other_byte four ≡ false
  unfolding columns
  number-known e = ap (some other_byte) (sym (same-eq (columns (minus_in a b c) (size_of a b c d)) four e)) ∙ columns-known 4 (minus_in a b c) (size_of a b c d)

  -- They are how their number is written exactly where they meet no refusal; then the number fits.
  number_is : is_number a b c d ≡ eqb (misspelling four) 0
  number_is = go (some other_byte four) refl
    where
      wrong : (t : Bool) → is_number a b c d ≡ t → some other_byte four ≡ true → t ≡ false
      wrong true p e = absurd (clash (sym (number-known p) ∙ e))
      wrong false p e = refl

      by : (t : Bool) → agrees t (misspelling four) (fits a b c d) ≡ true → t ≡ eqb (misspelling four) 0
      by true e = sym (both_left _ (fits a b c d) e)
      by false e = agreed false (eqb (misspelling four) 0) e

      go : (t : Bool) → some other_byte four ≡ t → is_number a b c d ≡ eqb (misspelling four) 0
      go true p = wrong (is_number a b c d) refl p ∙ rw (other-meets p)
      go false p = by (is_number a b c d) (tested p)

  number_fits : is_number a b c d ≡ true → fits a b c d ≡ true
  number_fits e = by (is_number a b c d) e (tested (number-known e))
    where
      by : (t : Bool) → t ≡ true → agrees t (misspelling four) (fits a b c d) ≡ true → fits a b c d ≡ true
      by true e f = both_right (eqb (misspelling four) 0) (fits a b c d) f
      by false e f = absurd (clash e)

  -- Columns that are no number's and meet neither 5 nor 17 meet 18.
  pub left_over : is_number a b c d ≡ false → stray four ≡ false → gapped four ≡ false → misspelling four ≡ 18
  left_over e f g = meets-last four (misspelling four) (meets four (sym number_is ∙ e)) f g

  -- ---- reading
  -- They are refused as misspelt exactly by the refusal that they meet.
  pub misspelt-iff : (q : ℕ) → (spelt a b c d ≡ Err q) ↔ Misspells four q
  unfolding spelt read_columns pick
  misspelt-iff q = (λ e. there (is_number a b c d) refl e, λ x. rw (number_is, misspells-is four q x, misspells-some four q x))
    where
      there : (t : Bool) → is_number a b c d ≡ t → pick t (Ok number) (Err (misspelling four)) ≡ Err q → Misspells four q
      there true p e = absurd (let z : ◌≡◌ {A = ℕ} 0 1 = cc in omega arith)
      there false p e = let w : misspelling four ≡ q = cc in rw w at (meets four (sym number_is ∙ p))

  -- They are read as a number exactly where they are how it is written.
  pub value-iff : (v : ℤ) → (spelt a b c d ≡ Ok v) ↔ (Short v × (written v ≡ four))
  unfolding spelt read_columns pick first_field
  value-iff v = (λ e. (short (is_number a b c d) refl e, written_read a b c d v e), λ x. rw x.1 at (read-written v [] x.0))
    where
      short : (t : Bool) → is_number a b c d ≡ t → pick t (Ok number) (Err (misspelling four)) ≡ Ok v → Short v
      short true p e = let w : number ≡ v = cc in rw w at (signed-short (minus_in a b c) (size_of a b c d) (number_fits p))
      short false p e = absurd (let z : ◌≡◌ {A = ℕ} 0 1 = cc in omega arith)

  -- They are well spelt exactly where none of the three applies.
  pub well-spelt-iff : WellSpelt four ↔ ((q : ℕ) → Misspells four q → ⊥)
  well-spelt-iff = (λ w q x. clashes w.number q ((value-iff w.number).1 (w.short, w.spelling)) ((misspelt-iff q).1 x), λ f. there (spelt a b c d) refl f)
    where
      clashes : (v : ℤ) (q : ℕ) → spelt a b c d ≡ Ok v → spelt a b c d ≡ Err q → ⊥
      clashes v q e f = let z : ◌≡◌ {A = ℕ} 0 1 = cc in omega arith

      there : (y : Result ℤ ℕ) → spelt a b c d ≡ y → ((q : ℕ) → Misspells four q → ⊥) → WellSpelt four
      there (Ok v) e f = let x = (value-iff v).0 e in record { number = v; short = x.0; spelling = x.1 }
      there (Err q) e f = absurd (f q ((misspelt-iff q).0 e))
