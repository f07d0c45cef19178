-- What each return of the functions on a field's number is by the definitions: one lemma a return.
-- Ranges by their bounds, counts as signed numbers, and what a line's numbers say.
use mathlib.Core.Path.{◌≡◌, refl, sym, ap, ◌∙◌}
use mathlib.Core.Bool.{Bool, true, false, not, ◌||◌}
use Prim.Native.Nat.{ℕ, zero, suc, ◌+◌, ◌<◌}
use native.Mathlib.Omega.{arith}
use lib.Dec.{eqb, leb}
use lib.IntN.{ℤ, pos, negsuc, neg_ℤ, ◌-ℤ◌, +ℤ_idl}
use lib.Signed.{mag, lt_z, le_z}
use mir.Syntax.{w32}
use mir.Val.{to_z, of_z, SFits}
use mir.Facts.{to_z-of_z, of_z-to_z, to_z_pos}
use borrow.Author.Rules.{sfits_of}
use borrow.Author.Tests.{ltb-true, eqb-true, eqb-false, leb-true, le-leb}
use Rattle.std.specs.Prelude.{Result, Ok, Err, ⊤, OkIff, IsErr, nat_abs}
use Rattle.std.specs.Result.{result_unwrap_or}
use Rattle.std.specs.Int.{FitsUnsignedBits}
use Rattle.std.proofs.lemmas.Result.{Ok-from_Ok_iff, IsErr-from_ok_iff}
use Rattle.logic.specs.Tests.{both, pick}
use Rattle.logic.proofs.Decide.{clash}
use Rattle.logic.proofs.Tests.{or-either, both_left, both_right}
use Rattle.book.specs.declared.Content.{Content}
use Rattle.book.specs.declared.Content.TheVariants.{Edition, Statements, Literal, Exception, Total}
use Rattle.book.specs.declared.Fault.{Fault}
use Rattle.book.specs.declared.Fault.TheVariants.{OutOfRange, Edition as WrongEdition}
use Rattle.book.specs.Faults.{number, numbered}
use Rattle.book.specs.Limits as limit
use Rattle.book.specs.Kinds.{Range, range_of, kinds, most, row_once, most_rows}
use Rattle.text.specs.Lines.{inside, between}
use Rattle.text.specs.Reading.{to_nat}
use Rattle.fields.specs.declared.Seen.{Seen}
use Rattle.fields.specs.Checks.{number_is, range, ranged, see_of}
use Rattle.fields.proofs.Columns.{back, lt-le, ge-le}

-- ---- one number
module _ {E : Type 0} (low high v : ℤ) (q : E) (b : Bool) (f : b ≡ between low high v) where
  pub number_in : b ≡ true → Ok tt ≡ ranged low high q v
  unfolding ranged pick
  number_in g = rw (← f, g)

  pub number-out : b ≡ false → Err q ≡ ranged low high q v
  unfolding ranged pick
  number-out g = rw (← f, g)

-- The same by the number of what is wrong.
pub ranged-number : (low high v : ℤ) (q : Fault) (x : Result ⊤ Fault) → x ≡ ranged low high q v → numbered x ≡ number_is (range low high q) v
unfolding ranged number_is inside pick
ranged-number low high v q x e = go (between low high v) x e
  where
    go : (b : Bool) (x : Result ⊤ Fault) → x ≡ pick b (Ok tt) (Err q) → numbered x ≡ pick b (Ok tt) (Err (number q))
    go true x e = rw e
    go false x e = rw e

-- ---- a signed number as a count
neg-nat : (v : ℤ) → lt_z v (pos 0) ≡ true → 0 ≡ to_nat v
unfolding to_nat
neg-nat (pos m) e = absurd (let h = ltb-true m 0 e in omega arith)
neg-nat (negsuc m) e = refl

pos-nat : (v : ℤ) → mag v < 2147483648 → lt_z v (pos 0) ≡ false → (m : ℕ) × (v ≡ pos m) × (m < 2147483648) × (m ≡ to_nat v)
unfolding to_nat
pos-nat (pos m) h e = (m, refl, h, refl)
pos-nat (negsuc m) h e = absurd (let z : ◌≡◌ {A = ℕ} 0 1 = cc in omega arith)

-- The number that a conversion gives, 0 where it fails.
pub nat-or : {E : Type 0} (v : ℤ) (r : Result ℕ E) (n : ℕ) → SFits w32 v → OkIff r (FitsUnsignedBits 64 (back v)) (nat_abs (back v)) → n ≡ result_unwrap_or r 0 → (n ≡ to_nat v) × (n < 2147483648)
unfolding to_nat
nat-or {E} v r n s o e = go v (omega (arith, s.sfits)) (rw (to_z-of_z s) at o)
  where
    none : (r : Result ℕ E) → IsErr r → result_unwrap_or r 0 ≡ 0
    none (Ok x) h = absurd (clash h)
    none (Err x) h = refl

    go : (u : ℤ) → mag u < 2147483648 → OkIff r (FitsUnsignedBits 64 u) (nat_abs u) → (n ≡ to_nat u) × (n < 2147483648)
    go (pos m) h o = let q : n ≡ m = e ∙ ap (λ (x : Result ℕ E). result_unwrap_or x 0) (Ok-from_Ok_iff r _ m o (omega arith)) in (q, omega arith)
    go (negsuc m) h o = let q : n ≡ 0 = e ∙ none r (IsErr-from_ok_iff r _ _ o (λ x. x)) in (q, omega arith)

pub nat-below : (v : ℤ) → SFits w32 v → lt_z (back v) (pos 0) ≡ true → 0 ≡ to_nat v
nat-below v s e = neg-nat v (rw (to_z-of_z s) at e)

pub nat-plain : (v : ℤ) → SFits w32 v → lt_z (back v) (pos 0) ≡ false → (m : ℕ) × (back v ≡ pos m) × (m < 2147483648) × (m ≡ to_nat v)
nat-plain v s e =
    let p = pos-nat v (omega (arith, s.sfits)) (rw (to_z-of_z s) at e) in
    (p.0, to_z-of_z s ∙ p.1, p.2, p.3)

small-flip : (n : ℕ) → n < 2147483648 → SFits w32 (neg_ℤ (pos n))
small-flip zero h = sfits_of (omega arith)
small-flip (suc m) h = sfits_of (omega arith)

flip-eq : (n : ℕ) → n < 2147483648 → pos 0 -ℤ to_z w32 n ≡ neg_ℤ (pos n)
flip-eq n h = ap (λ (z : ℤ). pos 0 -ℤ z) (to_z_pos w32 {n = n} (omega arith)) ∙ +ℤ_idl (neg_ℤ (pos n))

pub flip-fits : (n : ℕ) → n < 2147483648 → SFits w32 (pos 0 -ℤ to_z w32 n)
flip-fits n h = rw (flip-eq n h) (small-flip n h)

pub flip_is : (n : ℕ) → n < 2147483648 → back (pos 0 -ℤ to_z w32 n) ≡ neg_ℤ (pos n)
flip_is n h = to_z-of_z (flip-fits n h) ∙ flip-eq n h

-- ---- a number against its content's range
-- A number that a parameter holds, where the content is known.
module _ (c d : Content) (n : ℕ) (v : ℤ) (y : Result ⊤ ℕ) (s : SFits w32 v) (e : c ≡ d) where
  pub number_of : (r : Range) → r ≡ range_of d n → y ≡ number_is r (back v) → y ≡ number_is (range_of c n) v
  number_of r f g = g ∙ ap (number_is r) (to_z-of_z s) ∙ ap (λ (x : Range). number_is x v) (f ∙ ap (λ (x : Content). range_of x n) (sym e))

pub literal-range : (n : ℕ) → n < 2147483648 → range (back (pos 0 -ℤ to_z w32 n)) (to_z w32 n) OutOfRange ≡ range_of Literal n
unfolding range_of
literal-range n h = rw (flip_is n h, to_z_pos w32 {n = n} (omega arith))

pub edition-range : (n : ℕ) → range (pos 1) (pos 1) WrongEdition ≡ range_of Edition n
unfolding range_of
edition-range n = refl

pub statements-range : (n : ℕ) → range (pos 1) (to_z w32 limit.statements) OutOfRange ≡ range_of Statements n
unfolding range_of
statements-range n = refl

pub exception-range : (n : ℕ) → range (pos 1) (to_z w32 limit.exceptions) OutOfRange ≡ range_of Exception n
unfolding range_of
exception-range n = refl

pub total-range : (n : ℕ) → range (pos 0) (to_z w32 (limit.plain + limit.alternatives + limit.exceptions + limit.preferences + limit.conditionals)) OutOfRange ≡ range_of Total n
unfolding range_of most_rows most kinds row_once pick
total-range n = refl

-- ---- counts
module _ (v : ℤ) (m : ℕ) (h : m < 2147483648) (s : SFits w32 v) where
  pub not-at-most : lt_z (to_z w32 m) (back v) ≡ true → false ≡ le_z v (pos m)
  not-at-most e = sym (lt-le (pos m) v (rw (to_z_pos w32 {n = m} (omega arith), to_z-of_z s) at e))

  pub is-at-most : lt_z (to_z w32 m) (back v) ≡ false → true ≡ le_z v (pos m)
  is-at-most e = sym (ge-le (pos m) v (rw (to_z_pos w32 {n = m} (omega arith), to_z-of_z s) at e))

  -- The machine's test that a number is m.
  pub count-is : eqb (of_z w32 v) m ≡ between (pos m) (pos m) v
  unfolding between both
  count-is = go (eqb (of_z w32 v) m) refl (between (pos m) (pos m) v) refl
    where
      value : (u : ℤ) → between (pos m) (pos m) u ≡ true → u ≡ pos m
      value (pos k) e = ap pos (omega (arith, leb-true m k (both_left (leb m k) (leb k m) e), leb-true k m (both_right (leb m k) (leb k m) e)))
      value (negsuc k) e = absurd (clash (both_left (le_z (pos m) (negsuc k)) (le_z (negsuc k) (pos m)) e))

      here : between (pos m) (pos m) (pos m) ≡ true
      here = rw (le-leb m m (omega arith))

      go : (x : Bool) → eqb (of_z w32 v) m ≡ x → (y : Bool) → between (pos m) (pos m) v ≡ y → x ≡ y
      go true p true q = refl
      go false p false q = refl
      go true p false q =
          let e : v ≡ pos m = sym (to_z-of_z s) ∙ ap (to_z w32) (eqb-true (of_z w32 v) m p) ∙ to_z_pos w32 {n = m} (omega arith) in
          sym here ∙ ap (between (pos m) (pos m)) (sym e) ∙ q
      go false p true q =
          let e : of_z w32 v ≡ m = ap (of_z w32) (value v q ∙ sym (to_z_pos w32 {n = m} (omega arith))) ∙ of_z-to_z {w = w32} {n = m} (record { fits = omega arith }) in
          absurd (eqb-false (of_z w32 v) m p e)

-- ---- what a number says beside its range
module _ (s : Seen) (c : Content) (m n : ℕ) (v : ℤ) (f : SFits w32 v) where
  pub see-statements : (r : ℕ) → c ≡ Statements → r ≡ to_nat (back v) → record { statements = r; missing = s.missing; miscounted = s.miscounted } ≡ see_of s c m n v
  unfolding see_of
  see-statements r e g = rw (e, g, to_z-of_z f)

  pub see-exception : (r : Bool) → c ≡ Exception → r ≡ le_z (back v) (pos m) → record { statements = s.statements; missing = s.missing || not r; miscounted = s.miscounted } ≡ see_of s c m n v
  unfolding see_of
  see-exception r e g = rw (e, g, to_z-of_z f, or-either s.missing (not (le_z v (pos m))))

  pub see-total : (r : Bool) → c ≡ Total → r ≡ between (pos n) (pos n) (back v) → record { statements = s.statements; missing = s.missing; miscounted = s.miscounted || not r } ≡ see_of s c m n v
  unfolding see_of
  see-total r e g = rw (e, g, to_z-of_z f, or-either s.miscounted (not (between (pos n) (pos n) v)))

  pub see-edition : c ≡ Edition → s ≡ see_of s c m n v
  unfolding see_of
  see-edition e = rw e

  pub see-literal : c ≡ Literal → s ≡ see_of s c m n v
  unfolding see_of
  see-literal e = rw e
