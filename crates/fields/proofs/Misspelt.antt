-- Columns that are misspelt: what each return of the tests is by the definitions, one lemma a return. A test of four bytes, each between
-- its neighbours, is the test of the four one by one.
use mathlib.Core.Path.{◌≡◌, refl, sym, ◌∙◌}
use mathlib.Core.Bool.{Bool, true, false, not, ◌&&◌, ◌||◌}
use mathlib.Core.List.{[], ◌∷◌}
use Prim.Native.Nat.{ℕ}
use lib.Dec.{eqb, leb}
use borrow.Author.Tests.{ne_eqb}
use Rattle.std.specs.Char.{is_ascii_digit}
use Rattle.logic.specs.Tests.{both, either, pick, every}
use Rattle.logic.proofs.Tests.{and_both, or-either}
use Rattle.text.specs.Fields.{is_space, is_minus, is_digit, some_from, some_byte, other_byte, stray_byte, stray, space_after_digit, gapped, misspelling, is_number}
use Rattle.text.proofs.Spelling.{left_over}

pub digit-is : (b : ℕ) → leb 48 b && leb b 57 ≡ is_digit b
unfolding is_digit
digit-is b = and_both (leb 48 b) (leb b 57)

pub ascii-is : (b : ℕ) → is_ascii_digit b ≡ is_digit b
ascii-is b = digit-is b

pub gap_is : (before b : ℕ) (x : Bool) → x ≡ is_digit before → x && eqb b 32 ≡ both (is_digit before) (is_space b)
unfolding is_space
gap_is before b x e = rw (← e) (and_both x (eqb b 32))

-- ---- 5
module _ (before b after : ℕ) where
  pub stray-minus : (x y : Bool) → b ≡ 45 → x ≡ is_digit before → y ≡ is_digit after → x || not y ≡ stray_byte before b after
  unfolding stray_byte other_byte is_space is_minus is_digit both either
  stray-minus x y e f g = rw (e, ← f, ← g) (or-either x (not y))

  pub stray-space : b ≡ 32 → false ≡ stray_byte before b after
  unfolding stray_byte other_byte is_space is_minus is_digit both either
  stray-space e = rw e

  pub stray-other : (x : Bool) → (b ≡ 45 → ⊥) → (b ≡ 32 → ⊥) → x ≡ is_digit b → not x ≡ stray_byte before b after
  unfolding stray_byte other_byte is_space is_minus both either
  stray-other x f g e = rw (ne_eqb b 45 f, ne_eqb b 32 g, ← e) (go x)
    where
      go : (x : Bool) → not x ≡ either (not (either x false)) false
      go true = refl
      go false = refl

four-or : (x y z w : Bool) → x || (y || (z || w)) ≡ either x (either y (either z (either w false)))
unfolding either
four-or true y z w = refl
four-or false true z w = refl
four-or false false true w = refl
four-or false false false true = refl
four-or false false false false = refl

four-and : (x y z w : Bool) → x && (y && (z && w)) ≡ elim x [ true ↦ elim y [ true ↦ elim z [ true ↦ elim w [ true ↦ true | false ↦ false ] | false ↦ false ] | false ↦ false ] | false ↦ false ]
four-and false y z w = refl
four-and true false z w = refl
four-and true true false w = refl
four-and true true true false = refl
four-and true true true true = refl

module _ (a b c d : ℕ) where
  pub stray-is : (x y z w : Bool) → x ≡ stray_byte 0 a b → y ≡ stray_byte a b c → z ≡ stray_byte b c d → w ≡ stray_byte c d 0
      → x || (y || (z || w)) ≡ stray (a ∷ b ∷ c ∷ d ∷ [])
  unfolding stray some_byte some_from
  stray-is x y z w e f g h = rw (← e, ← f, ← g, ← h) (four-or x y z w)

  -- ---- 17
  pub gapped-is : (x y z : Bool) → x ≡ both (is_digit a) (is_space b) → y ≡ both (is_digit b) (is_space c) → z ≡ both (is_digit c) (is_space d)
      → (eqb a 32 && (eqb b 32 && (eqb c 32 && eqb d 32))) || (x || (y || z)) ≡ gapped (a ∷ b ∷ c ∷ d ∷ [])
  unfolding gapped every some_byte some_from space_after_digit is_space is_digit both either
  gapped-is x y z e f g =
      or-either (eqb a 32 && (eqb b 32 && (eqb c 32 && eqb d 32))) (x || (y || z))
      ∙ rw (← e, ← f, ← g, four-and (eqb a 32) (eqb b 32) (eqb c 32) (eqb d 32), four-or false x y z)

  -- ---- the first that applies
  pub meets-5 : (x : Bool) → x ≡ stray (a ∷ b ∷ c ∷ d ∷ []) → x ≡ true → 5 ≡ misspelling (a ∷ b ∷ c ∷ d ∷ [])
  unfolding misspelling pick
  meets-5 x e f = rw (← e, f)

  module _ (x y : Bool) (e : x ≡ stray (a ∷ b ∷ c ∷ d ∷ [])) (f : x ≡ false) (g : y ≡ gapped (a ∷ b ∷ c ∷ d ∷ [])) where
    pub meets-17 : y ≡ true → 17 ≡ misspelling (a ∷ b ∷ c ∷ d ∷ [])
    unfolding misspelling pick
    meets-17 h = rw (← e, f, ← g, h)

    pub meets-18 : y ≡ false → is_number a b c d ≡ false → 18 ≡ misspelling (a ∷ b ∷ c ∷ d ∷ [])
    meets-18 h w = sym (left_over a b c d w (sym e ∙ f) (sym g ∙ h))
