-- A number table is refused only by 16, 6, 8, 9, 10 (document 01, 'Turned down, by place') and 23 (document 02, (g)); so not by 19 or 22, which Q
-- and O lines of a text have.
-- By cases on the tests in their order; a row's own refusals by its kind's contents, all of whose ranges refuse by 6.
use mathlib.Core.Path.{◌≡◌, refl, sym, ◌∙◌}
use mathlib.Core.Bool.{Bool, true, false, not}
use mathlib.Core.List.{List, [], ◌∷◌}
use mathlib.Core.Logic.{◌⊎◌, inl, inr, ⊎_elim}
use Prim.Native.Nat.{ℕ, zero, suc, ◌+◌, ◌<◌}
use native.Mathlib.Omega.{arith}
use lib.Dec.{eqb, ltb}
use lib.IntN.{ℤ, pos}
use lib.ListN.{length, get_or, take, drop, length-drop}
use lib.Seq.{length-take-le}
use borrow.Author.Tests.{eqb-true}
use Rattle.std.specs.Prelude.{Ok}
use Rattle.logic.specs.Lists.{Among}
use Rattle.logic.specs.Tests.{either, pick, every, some}
use Rattle.logic.proofs.Decide.{clash}
use Rattle.book.specs.declared.Shape.{Shape}
use Rattle.book.specs.declared.Content.{Content}
use Rattle.book.specs.declared.Content.TheVariants.{Edition, Statements, Literal, Exception, Total}
use Rattle.book.specs.Faults.{number}
use Rattle.book.specs.Kinds.{kinds, kind, unknown, contents, numbers_of, none, first, last, front, range_of, Range}
use Rattle.book.specs.Counts.{counts_of, row_numbers}
use Rattle.text.specs.Lines.{Numbers, Line, inside, and_then, test_field, headless, missing, unless, judged}
use Rattle.text.specs.Lines.Numbers.{numbers, fault}
use Rattle.text.specs.Lines.Line.{line, wrong}
use Rattle.text.specs.Reading.{Outcome, prepend, on_line}
use Rattle.text.specs.Reading.Outcome.{accepted, refused}
use Rattle.text.specs.Tables.{layout, cut, rows_of, test_fields, row_fault, test_row, test_rows, shape_in, miscount, test_table}
use Rattle.logic.proofs.Tests.{all, all-at}
use Rattle.text.proofs.KindFacts.{numbers-wide}
use Rattle.text.proofs.Layouts.{Rising, sum_by, widths, layout-widths, rows-rising}
use Rattle.text.proofs.Rows.{row-yes}

abbrev pub Refused : ℕ → Type 0
Refused q = Among q (6 ∷ 8 ∷ 9 ∷ 10 ∷ 16 ∷ 23 ∷ [])

-- ---- a row
-- A range's refusal does not depend on n.
fault-same : (c : Content) (n : ℕ) → (number (range_of c n).fault) ≡ (number (range_of c 0).fault)
unfolding range_of
fault-same Edition n = refl
fault-same Statements n = refl
fault-same Literal n = refl
fault-same Exception n = refl
fault-same Total n = refl

abbrev sixes : List Content → Bool
sixes cs = every (λ c. eqb (number (range_of c 0).fault) 6) cs

-- All fields of rows refuse by 6.
row-sixes : all (λ (k : ℕ). either (not (kind k).row) (sixes (numbers_of (kind k)))) none ≡ true
unfolding kinds kind unknown contents numbers_of either every range_of
row-sixes = refl

first-fault : (v : ℤ) (r : Range) (y : Numbers) (q : ℕ) → test_field (Ok v) r y ≡ fault q → ((number r.fault) ≡ 6) → ((p : ℕ) → y ≡ fault p → p ≡ 6) → q ≡ 6
unfolding test_field pick and_then
first-fault v r y q e s ih = go (inside r v) y e ih
  where
    go : (b : Bool) (x : Numbers) → pick b (and_then v x) (fault (number r.fault)) ≡ fault q → ((p : ℕ) → x ≡ fault p → p ≡ 6) → q ≡ 6
    go false x e ih = let z : (number r.fault) ≡ q = cc in sym z ∙ s
    go true (numbers vs) e ih = absurd (let z : ◌≡◌ {A = ℕ} 0 1 = cc in omega arith)
    go true (fault p) e ih = let z : p ≡ q = cc in sym z ∙ ih p refl

every_first : (b x : Bool) → elim b [ true ↦ x | false ↦ false ] ≡ true → (b ≡ true) × (x ≡ true)
every_first true x e = (refl, e)
every_first false x e = absurd (clash e)

fields-fault : (cs : List Content) (n : ℕ) (vs : List ℤ) (q : ℕ) → length vs ≡ length cs → sixes cs ≡ true → test_fields cs n vs ≡ fault q → q ≡ 6
unfolding test_fields every
fields-fault [] n [] q l s e = absurd (let z : ◌≡◌ {A = ℕ} 0 1 = cc in omega arith)
fields-fault [] n (v ∷ vs) q l s e = absurd (omega arith)
fields-fault (c ∷ cs) n [] q l s e = absurd (omega arith)
fields-fault (c ∷ cs) n (v ∷ vs) q l s e =
    let t = every_first (eqb (number (range_of c 0).fault) 6) (sixes cs) s in
    first-fault v (range_of c n) (test_fields cs n vs) q e (fault-same c n ∙ eqb-true (number (range_of c 0).fault) 6 t.0) (λ p f. fields-fault cs n vs p (omega arith) t.1 f)

-- A row that lacks a head is refused by 9 or 23, by its kind.
abbrev nine : ℕ → Bool
nine k = either (eqb (number (kind k).unfilled) 9) (eqb (number (kind k).unfilled) 23)

nines : all nine none ≡ true
unfolding kinds kind unknown either
nines = refl

lacking : (k q : ℕ) → k < none → (number (kind k).unfilled) ≡ q → Refused q
unfolding either
lacking k q h e = go (eqb (number (kind k).unfilled) 9) (eqb (number (kind k).unfilled) 23) refl refl (all-at nine none k nines h)
  where
    go : (a b : Bool) → eqb (number (kind k).unfilled) 9 ≡ a → eqb (number (kind k).unfilled) 23 ≡ b → either a b ≡ true → Refused q
    go true b x y s = inr (inr (inl (sym (eqb-true (number (kind k).unfilled) 9 x) ∙ e)))
    go false true x y s = inr (inr (inr (inr (inr (inl (sym (eqb-true (number (kind k).unfilled) 23 y) ∙ e))))))
    go false false x y s = absurd (clash s)

whole-fault : (m k : ℕ) (vs : List ℤ) (q : ℕ) → k < none → row_fault m (kind k) vs ≡ suc q → Refused (suc q)
unfolding row_fault pick
whole-fault m k vs q h e = go (headless (kind k) vs) (missing m (kind k) vs) e
  where
    go : (a b : Bool) → ◌≡◌ {A = ℕ} (pick a (number (kind k).unfilled) (pick b 10 0)) (suc q) → Refused (suc q)
    go true b e = lacking k (suc q) h e
    go false true e = inr (inr (inr (inl e)))
    go false false e = absurd (omega arith)

judged-wrong : (m k : ℕ) (x : Numbers) (q : ℕ) → k < none → ((p : ℕ) → x ≡ fault p → p ≡ 6) → judged (row_fault m (kind k)) k x ≡ wrong q → Refused q
unfolding judged unless
judged-wrong m k (fault p) q h f e = let z : p ≡ q = cc in inl (sym (f p refl) ∙ z)
judged-wrong m k (numbers vs) q h f e = go (row_fault m (kind k) vs) refl e
  where
    go : (p : ℕ) → row_fault m (kind k) vs ≡ p → unless p (line k vs) ≡ wrong q → Refused q
    go zero r e = absurd (let z : ◌≡◌ {A = ℕ} 0 1 = cc in omega arith)
    go (suc p) r e = let z : suc p ≡ q = cc in rw z at (whole-fault m k vs p h r)

or-then : (a b : Bool) → either (not a) b ≡ true → a ≡ true → b ≡ true
unfolding either
or-then true b e f = e
or-then false b e f = absurd (clash f)

row-wrong : (s : Shape) (k : ℕ) (vs : List ℤ) (q : ℕ) → first < k → k < last → length vs ≡ (kind k).numbers → test_row s (record { place = k; nums = vs }) ≡ wrong q → Refused q
unfolding test_row
row-wrong s k vs q h g l e =
    let x = or-then (kind k).row (sixes (numbers_of (kind k))) (all-at (λ (k : ℕ). either (not (kind k).row) (sixes (numbers_of (kind k)))) none k row-sixes (omega arith)) (row-yes k h g) in
    judged-wrong s.exceptions k (test_fields (numbers_of (kind k)) s.statements vs) q (omega arith) (λ p f. fields-fault (numbers_of (kind k)) s.statements vs p (l ∙ sym (numbers-wide k h g)) x f) e

-- ---- the rows
on-refused : (l : Line) (at : ℕ) (o : Outcome) (q p : ℕ) → on_line l at (λ k vs. o) ≡ refused q p → (l ≡ wrong q) ⊎ (o ≡ refused q p)
unfolding on_line prepend
on-refused (wrong r) at o q p e = inl (let z : r ≡ q = cc in rw z)
on-refused (line k vs) at (accepted s ws) q p e = absurd (let z : ◌≡◌ {A = ℕ} 0 1 = cc in omega arith)
on-refused (line k vs) at (refused r l) q p e = inr e

rows-refused : (ks : List ℕ) (s : Shape) (ws : List ℤ) (at m q p : ℕ) → first < m → Rising m last ks → length ws ≡ widths ks → test_rows s (cut ks ws) at ≡ refused q p → Refused q
unfolding cut test_rows sum_by
rows-refused [] s ws at m q p b r l e = absurd (let z : ◌≡◌ {A = ℕ} 0 1 = cc in omega arith)
rows-refused (k ∷ ks) s ws at m q p b r l e =
    ⊎_elim (λ x. row-wrong s k (take (kind k).numbers ws) q (omega (arith, r.0)) r.1 (length-take-le (kind k).numbers ws (omega arith)) x)
    (λ y. rows-refused ks s (drop (kind k).numbers ws) (suc at) k q p (omega (arith, r.0)) r.2 (length-drop (kind k).numbers ws ∙ omega arith) y)
    (on-refused (test_row s (record { place = k; nums = take (kind k).numbers ws })) at (test_rows s (cut ks (drop (kind k).numbers ws)) (suc at)) q p e)

-- ---- the table
pub table-refused : (t : List ℤ) (q p : ℕ) → test_table t ≡ refused q p → Refused q
unfolding test_table pick rows_of
table-refused t q p e =
    go (ltb (length t) front) (inside (range_of Statements 0) (get_or t 0 (pos 0))) (some (miscount t) kinds) (eqb (length t) (front + row_numbers (shape_in t))) refl e
  where
    is : (n l : ℕ) → refused n l ≡ refused q p → n ≡ q
    is n l e = cc

    go : (a b x w : Bool) → eqb (length t) (front + row_numbers (shape_in t)) ≡ w
        → pick a (refused 16 0) (pick (not b) (refused 6 1) (pick x (refused 8 1) (pick (not w) (refused 16 0) (test_rows (shape_in t) (cut (layout 1 (counts_of (shape_in t))) (drop front t)) 2)))) ≡ refused q p → Refused q
    go true b x w l e = inr (inr (inr (inr (inl (is 16 0 e)))))
    go false false x w l e = inl (is 6 1 e)
    go false true true w l e = inr (inl (is 8 1 e))
    go false true false false l e = inr (inr (inr (inr (inl (is 16 0 e)))))
    go false true false true l e =
        rows-refused (layout 1 (counts_of (shape_in t))) (shape_in t) (drop front t) 2 1 q p (omega arith) (rows-rising (shape_in t)) (length-drop front t ∙ omega (arith, eqb-true (length t) _ l, layout-widths (shape_in t))) e
