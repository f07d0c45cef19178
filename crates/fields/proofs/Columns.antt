-- What each return of the functions on columns is by the definitions: one lemma a return.
-- A signed parameter is read back as `back` of it, and a number that fits is that number.
use mathlib.Core.Path.{◌≡◌, refl, sym, ap, ◌∙◌}
use mathlib.Core.Bool.{Bool, true, false, ◌&&◌, ◌||◌}
use mathlib.Core.Logic.{◌⊎◌, inl, inr}
use mathlib.Core.List.{List, [], ◌∷◌}
use Prim.Native.Nat.{ℕ, zero, suc, ◌+◌, ◌-◌, ◌*◌, ◌/◌, ◌%◌, ◌<◌, ◌≤◌}
use native.Mathlib.Nat.{add-zero}
use native.Mathlib.Omega.{arith}
use lib.Dec.{eqb}
use lib.IntN.{ℤ, pos, negsuc, neg_ℤ, ◌-ℤ◌, +ℤ_idl}
use lib.Signed.{mag, lt_z, le_z}
use lib.ListN.{get_or, drop}
use lib.Seq.{get_or-drop}
use mir.Syntax.{w32}
use mir.Val.{to_z, of_z, SFits}
use mir.Facts.{to_z_pos, to_z-of_z}
use borrow.Author.Rules.{sfits_of}
use borrow.Author.Tests.{eq-eqb, ne_eqb, lt-ltb, le-ltb, le-leb, lt-leb, ltb-true, ltb-false}
use Rattle.std.specs.Prelude.{Ok, Err}
use Rattle.logic.specs.Tests.{both, either, pick}
use Rattle.text.specs.Fields.{column_of, columns, digit_of, size_of, minus_in, signed, same, read_columns, spelt, first_field, misspelling, is_number, in_columns}
use Rattle.text.specs.Lines.{between}

module _ (b : ℕ) where
  pub digit-out : (b < 48) ⊎ (57 < b) → 0 ≡ digit_of b
  unfolding digit_of pick
  digit-out (inl h) = rw (lt-ltb b 48 h)
  digit-out (inr h) = rw (le-ltb b 48 (omega arith), lt-ltb 57 b h)

  pub digit-in : 48 ≤ b → b ≤ 57 → b - 48 ≡ digit_of b
  unfolding digit_of pick
  digit-in h g = rw (le-ltb b 48 h, le-ltb 57 b g)

module _ (neg : Bool) (m s : ℕ) where
  pub column-last : s ≡ 1 → 48 + m / s % 10 ≡ column_of neg m s
  unfolding column_of pick either
  column-last e = rw (eq-eqb s 1 e)

  pub column-digit : (s ≡ 1 → ⊥) → s ≤ m → 48 + m / s % 10 ≡ column_of neg m s
  unfolding column_of pick either
  column-digit f h = rw (ne_eqb s 1 f, le-leb s m h)

  pub column-minus : (s ≡ 1 → ⊥) → m < s → neg ≡ true → s ≤ m * 10 → 45 ≡ column_of neg m s
  unfolding column_of pick either both
  column-minus f h e g = rw (ne_eqb s 1 f, lt-leb s m h, e, le-leb s (m * 10) g)

  pub column-space : (s ≡ 1 → ⊥) → m < s → m * 10 < s → 32 ≡ column_of neg m s
  unfolding column_of pick either both
  column-space f h g = rw (ne_eqb s 1 f, lt-leb s m h, lt-leb s (m * 10) g) (go neg)
    where
      go : (b : Bool) → ◌≡◌ {A = ℕ} 32 (pick (both b false) 45 32)
      go true = refl
      go false = refl

  pub column-plus : (s ≡ 1 → ⊥) → m < s → neg ≡ false → 32 ≡ column_of neg m s
  unfolding column_of pick either both
  column-plus f h e = rw (ne_eqb s 1 f, lt-leb s m h, e)

pub minus-is : (a b c : ℕ) → (eqb a 45 || eqb b 45) || eqb c 45 ≡ minus_in a b c
unfolding minus_in either
minus-is a b c = go (eqb a 45) (eqb b 45)
  where
    go : (x y : Bool) → (x || y) || eqb c 45 ≡ either x (either y (eqb c 45))
    go true y = refl
    go false true = refl
    go false false = refl

-- ---- signed numbers
small-neg : (v : ℕ) → v < 10000 → SFits w32 (neg_ℤ (pos v))
small-neg zero h = sfits_of (omega arith)
small-neg (suc v) h = sfits_of (omega arith)

neg-eq : (v : ℕ) → v < 10000 → pos 0 -ℤ to_z w32 v ≡ neg_ℤ (pos v)
neg-eq v h = ap (λ (z : ℤ). pos 0 -ℤ z) (to_z_pos w32 {n = v} (omega arith)) ∙ +ℤ_idl (neg_ℤ (pos v))

pub neg-fits : (v : ℕ) → v < 10000 → SFits w32 (pos 0 -ℤ to_z w32 v)
neg-fits v h = rw (neg-eq v h) (small-neg v h)

pub neg_value : (neg : Bool) (v : ℕ) → v < 10000 → neg ≡ true → to_z w32 (of_z w32 (pos 0 -ℤ to_z w32 v)) ≡ signed neg v
unfolding signed
neg_value neg v h e = rw e (to_z-of_z (neg-fits v h) ∙ neg-eq v h)

pub pos-value : (neg : Bool) (v : ℕ) → v < 10000 → neg ≡ false → to_z w32 v ≡ signed neg v
unfolding signed
pos-value neg v h e = rw e (to_z_pos w32 {n = v} (omega arith))

-- ---- four columns
pub at-columns : (t : List ℕ) (at : ℕ) → first_field (drop at t) ≡ spelt (get_or t at 0) (get_or t (at + 1) 0) (get_or t (at + 2) 0) (get_or t (at + 3) 0)
unfolding first_field
at-columns t at = rw (get_or-drop at t 0 0, get_or-drop at t 1 0, get_or-drop at t 2 0, get_or-drop at t 3 0, add-zero at)

module _ (a b c d p q r s : ℕ) where
  pub size_is : p ≡ digit_of a → q ≡ digit_of b → r ≡ digit_of c → s ≡ digit_of d → p * 1000 + q * 100 + r * 10 + s ≡ size_of a b c d
  unfolding size_of
  size_is i j k l = rw (i, j, k, l)

-- ---- four columns compared
pub all_same : (neg : Bool) (m a b c d x y z w : ℕ) → x ≡ column_of neg m 1000 → y ≡ column_of neg m 100 → z ≡ column_of neg m 10 → w ≡ column_of neg m 1
    → ((eqb x a && eqb y b) && eqb z c) && eqb w d ≡ same (columns neg m) (a ∷ b ∷ c ∷ d ∷ [])
unfolding columns in_columns same both
all_same neg m a b c d x y z w e f g h = rw (← e, ← f, ← g, ← h) (go (eqb x a) (eqb y b) (eqb z c) (eqb w d))
  where
    go : (p q r s : Bool) → ((p && q) && r) && s ≡ both p (both q (both r (both s true)))
    go false q r s = refl
    go true false r s = refl
    go true true false s = refl
    go true true true true = refl
    go true true true false = refl

module _ (a b c d m : ℕ) (neg t : Bool) (em : m ≡ size_of a b c d) (en : neg ≡ minus_in a b c) (et : t ≡ same (columns neg m) (a ∷ b ∷ c ∷ d ∷ [])) where
  spelt_is : spelt a b c d ≡ read_columns neg m (a ∷ b ∷ c ∷ d ∷ [])
  unfolding spelt
  spelt_is = rw (em, en)

  pub is-spelt : (v : ℤ) → t ≡ true → v ≡ signed neg m → Ok v ≡ spelt a b c d
  unfolding read_columns pick
  is-spelt v e f = sym (spelt_is ∙ rw (← et, e, f))

  pub not_right : t ≡ false → is_number a b c d ≡ false
  not_right e = rw (← em, ← en, ← et) e

  pub is-misspelt : (q : ℕ) → t ≡ false → q ≡ misspelling (a ∷ b ∷ c ∷ d ∷ []) → Err q ≡ spelt a b c d
  unfolding read_columns pick
  is-misspelt q e f = sym (spelt_is ∙ rw (← et, e, f))

-- Columns that are known to be so.
pub usual-spelt : (a b c d m : ℕ) (neg t : Bool) → m ≡ size_of a b c d → neg ≡ minus_in a b c → t ≡ true
    → (t ≡ true → is_number a b c d ≡ true) → (v : ℤ) → v ≡ signed neg m → Ok v ≡ spelt a b c d
usual-spelt a b c d m neg t em en et right v ev = is-spelt a b c d m neg true em en (rw (em, en) (sym (right et))) v refl ev

-- ---- ranges
-- what the machine reads back of a number that fits
abbrev pub back : ℤ → ℤ
back x = to_z w32 (of_z w32 x)

pub lt-le : (a b : ℤ) → lt_z a b ≡ true → le_z b a ≡ false
lt-le (pos a) (pos b) e = lt-leb b a (ltb-true a b e)
lt-le (pos a) (negsuc b) e = absurd (let z : ◌≡◌ {A = ℕ} 0 1 = cc in omega arith)
lt-le (negsuc a) (pos b) e = refl
lt-le (negsuc a) (negsuc b) e = lt-leb a b (ltb-true b a e)

pub ge-le : (a b : ℤ) → lt_z a b ≡ false → le_z b a ≡ true
ge-le (pos a) (pos b) e = le-leb b a (ltb-false a b e)
ge-le (pos a) (negsuc b) e = refl
ge-le (negsuc a) (pos b) e = absurd (let z : ◌≡◌ {A = ℕ} 0 1 = cc in omega arith)
ge-le (negsuc a) (negsuc b) e = le-leb a b (ltb-false b a e)

module _ (low high v : ℤ) (fl : SFits w32 low) (fh : SFits w32 high) (fv : SFits w32 v) where
  pub too-low : le_z (back low) (back v) ≡ false → false ≡ between low high v
  unfolding between both
  too-low e = rw (rw (to_z-of_z fv, to_z-of_z fl) at e)

  pub too-high : le_z (back low) (back v) ≡ true → le_z (back v) (back high) ≡ false → false ≡ between low high v
  unfolding between both
  too-high e f = rw (rw (to_z-of_z fv, to_z-of_z fl) at e, rw (to_z-of_z fv, to_z-of_z fh) at f)

  pub in_between : le_z (back low) (back v) ≡ true → le_z (back v) (back high) ≡ true → true ≡ between low high v
  unfolding between both
  in_between e f = rw (rw (to_z-of_z fv, to_z-of_z fl) at e, rw (to_z-of_z fv, to_z-of_z fh) at f)

pub back-same : (x : ℤ) → mag x < 2147483648 → back x ≡ x
back-same x h = to_z-of_z {w = w32} (sfits_of (omega arith))

pub back-mag : (x : ℤ) → mag x < 2147483648 → mag (back x) < 2147483648
back-mag x h = rw (back-same x h) h
