-- The word that the loop over the P rows makes has the exceptions before which the rows put an exception.
-- The rows are read from the last to the first, so each turn puts one preference in front of the list.
use mathlib.Core.Path.{◌≡◌, refl, sym, ap, ◌∙◌}
use mathlib.Core.Bool.{Bool, true, false}
use mathlib.Core.List.{List, [], ◌∷◌}
use mathlib.Core.Logic.{◌↔◌, ◌⊎◌, inl, inr, ⊎_elim}
use Prim.Native.Nat.{ℕ, suc, ◌+◌, ◌-◌, ◌*◌, ◌<◌, ◌≤◌}
use native.Mathlib.Omega.{arith}
use lib.Dec.{eqb}
use lib.IntN.{ℤ, negsuc}
use lib.IntN as Z
use lib.ListN.{length}
use mir.Syntax.{w32}
use mir.Val.{SFits}
use mir.Facts.{to_z-of_z}
use borrow.Author.Rules.{sfits_of}
use borrow.Author.Tests.{eqb-true, eq-eqb, ne_eqb}
use Rattle.logic.specs.Tests.{both, either}
use Rattle.logic.proofs.Decide.{clash}
use Rattle.book.specs.declared.Shape.{Shape}
use Rattle.book.specs.Limits as limit
use Rattle.book.specs.Kinds.{preference, preference_numbers}
use Rattle.book.specs.Counts.{start_of}
use Rattle.sets.specs.Sets.{member}
use Rattle.sets.proofs.Words.{member-empty}
use Rattle.meaning.specs.Meant.{at, number, preferences_at, book_of}
use Rattle.bridge.specs.Ranks.{Names}
use Rattle.bridge.specs.Rows.{RowsLawful}
use Rattle.bridge.proofs.Rows.{names-within, preference-end}
use Rattle.prepare.specs.Ranking.{WithLine, LinesFrom}
use Rattle.prepare.proofs.Numbers.{back}

-- ---- a number that names an exception
abbrev pub NamesIn : ℤ → Type 0
NamesIn x = Names limit.exceptions (number x)

names-small : (x : ℤ) → NamesIn x → SFits w32 x
unfolding number
names-small (Z.pos n) h = let m = h.most in sfits_of (omega arith)
names-small (negsuc n) h = absurd (let f = h.from_one in omega arith)

-- It is no negative number.
pub names-is : (x : ℤ) → NamesIn x → back x ≡ Z.pos (number x)
unfolding number
names-is (Z.pos n) h = to_z-of_z (names-small (Z.pos n) h)
names-is (negsuc n) h = absurd (let f = h.from_one in omega arith)

pub names-back : (x : ℤ) → NamesIn x → NamesIn (back x)
names-back x h = rw (to_z-of_z (names-small x h)) h

pub names-range : (x : ℤ) (r : ℕ) → NamesIn x → r ≡ number x → (0 < r) × (r ≤ 64)
names-range x r h e = let f = h.from_one in let m = h.most in (omega arith, omega arith)

pub names_same : (x : ℤ) → NamesIn x → number (back x) ≡ number x
names_same x h = ap number (to_z-of_z (names-small x h))

-- ---- one line
either_true : (a b : Bool) → (either a b ≡ true) ↔ ((a ≡ true) ⊎ (b ≡ true))
unfolding either
either_true true b = (λ e. inl refl, λ h. refl)
either_true false b = (λ e. inr e, λ h. ⊎_elim (λ e. absurd (clash e)) (λ e. e) h)

both_true : (a b : Bool) → (both a b ≡ true) ↔ ((a ≡ true) × (b ≡ true))
unfolding both
both_true true b = (λ e. (refl, e), λ h. h.1)
both_true false b = (λ e. absurd (clash e), λ h. absurd (clash h.0))

either-false : (b : Bool) → either b false ≡ b
unfolding either
either-false true = refl
either-false false = refl

pub line-added : (a s x y r : ℕ) → x ≡ a → ((c : ℕ) → 0 < c → member c r ≡ either (member c s) (eqb y c)) → WithLine a s x y r
unfolding both
line-added a s x y r e f = record { members = λ c h. rw (eq-eqb x a e) (f c h) }

pub line_other : (a s x y : ℕ) → (x ≡ a → ⊥) → WithLine a s x y s
unfolding both
line_other a s x y n = record { members = λ c h. rw (ne_eqb x a n) (sym (either-false (member c s))) }

pub lines_none : (a : ℕ) → LinesFrom [] a 0
lines_none a = record { members = λ c h. (λ e. clash (sym (member-empty c) ∙ e), λ m. absurd m) }

pub lines_more : (ls : List (ℕ × ℕ)) (a s x y r : ℕ) → LinesFrom ls a s → WithLine a s x y r → LinesFrom ((x, y) ∷ ls) a r
lines_more ls a s x y r f w = record {
  members = λ c h. let g = f.members c h in let e = either_true (member c s) (both (eqb x a) (eqb y c)) in let b = both_true (eqb x a) (eqb y c) in (
    λ m. ⊎_elim (λ q. inr (g.0 q)) (λ q. let p = b.0 q in inl (same (eqb-true x a p.0) (eqb-true y c p.1))) (e.0 (sym (w.members c h) ∙ m)),
    λ m. w.members c h ∙ e.1 (⊎_elim (λ q. inr (b.1 (eq-eqb x a (ap (λ (l : ℕ × ℕ). l.0) q), eq-eqb y c (ap (λ (l : ℕ × ℕ). l.1) q)))) (λ q. inl (g.1 q)) m),
  );
}
  where
    same : {b c : ℕ} → x ≡ b → y ≡ c → ◌≡◌ {A = ℕ × ℕ} (x, y) (b, c)
    same p q i = (p i, q i)

-- ---- the loop
module _ (s : Shape) (t : List ℤ) (w : RowsLawful s t) (k : ℕ) (h : 0 < k) (l : k ≤ s.preferences) where
  abbrev pub row_at : ℕ
  row_at = start_of s preference + (k - 1) * preference_numbers

  pub row_in : row_at + preference_numbers ≤ length t
  row_in = omega (arith, preference-end s, w.room)

  pub first-named : NamesIn (at t row_at)
  first-named = let e : row_at + 0 ≡ row_at = omega arith in names-within s t w _ (rw e at (w.names (k - 1) (omega arith) 0 (omega arith)))

  pub second-named : NamesIn (at t (row_at + 1))
  second-named = names-within s t w _ (w.names (k - 1) (omega arith) 1 (omega arith))

  pub lines-turn : (a set x y r : ℕ) → LinesFrom (preferences_at t (start_of s preference + k * preference_numbers) (s.preferences - k)) a set
      → x ≡ number (back (at t row_at)) → y ≡ number (back (at t (row_at + 1))) → WithLine a set x y r
      → LinesFrom (preferences_at t row_at (s.preferences - (k - 1))) a r
  unfolding preferences_at
  lines-turn a set x y r f ex ey g =
      let c : s.preferences - (k - 1) ≡ suc (s.preferences - k) = omega arith in
      let d : row_at + preference_numbers ≡ start_of s preference + k * preference_numbers = omega arith in
      let p : x ≡ number (at t row_at) = ex ∙ names_same _ first-named in
      let q : y ≡ number (at t (row_at + 1)) = ey ∙ names_same _ second-named in
      rw (c, d, sym p, sym q) (lines_more _ a set x y r f g)

pub lines-last : (t : List ℤ) (k m a : ℕ) → LinesFrom (preferences_at t k (m - m)) a 0
unfolding preferences_at
lines-last t k m a = let e : m - m ≡ 0 = omega arith in rw e (lines_none a)

pub lines-all : (s : Shape) (t : List ℤ) (a set k : ℕ) → k ≤ 0 → LinesFrom (preferences_at t (start_of s preference + k * preference_numbers) (s.preferences - k)) a set
    → LinesFrom (book_of s t).preferences a set
unfolding book_of
lines-all s t a set k h f =
    let c : start_of s preference + k * preference_numbers ≡ start_of s preference = omega arith in
    let d : s.preferences - k ≡ s.preferences = omega arith in
    rw (c, d) at f
