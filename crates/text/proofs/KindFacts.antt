-- What the laws of lines need to know of the kinds of line: which may come when, which are rows, what their fields hold.
-- Each fact is one computed test of all kinds, so that a further kind changes no proof here.
use mathlib.Core.Path.{◌≡◌, refl, sym, ap, ◌∙◌}
use mathlib.Core.Bool.{Bool, true, false, not}
use mathlib.Core.List.{List, [], ◌∷◌}
use Prim.Native.Nat.{ℕ, suc, ◌+◌, ◌<◌, ◌≤◌}
use native.Mathlib.Omega.{arith}
use lib.Dec.{eqb, ltb, leb}
use lib.IntN.{ℤ}
use lib.ListN.{length, get_or, drop, drop_of_length-le, length-drop}
use lib.Seq.{drop-cons}
use borrow.Author.Tests.{eqb-true, eqb-false, ne_eqb, ltb-true, ltb-false, leb-true, lt-ltb, le-ltb, le-leb, lt-leb, not-true}
use Rattle.logic.specs.Tests.{both, either, pick, cons_if, every}
use Rattle.logic.proofs.Decide.{clash}
use Rattle.book.specs.declared.Kind.{Kind}
use Rattle.book.specs.declared.Content.{Content}
use Rattle.book.specs.declared.Content.TheVariants.{Statements, Exception, Total}
use Rattle.book.specs.Faults.{number}
use Rattle.book.specs.Kinds.{kinds, kind, unknown, contents, fields_of, numbers_of, none, first, exception, last}
use Rattle.book.proofs.Counts.{many}
use Rattle.text.specs.Lines.{seek, kind_for, code, numbers_in}
use Rattle.logic.proofs.Tests.{both_left, both_right, agree, agreed, all, all-at, pairs-at}

-- ---- which kind may come
-- A kind may come if none after it has come; before the first line only the first may.
abbrev pub may_come : ℕ → ℕ → Bool
may_come next k = both (ltb k none) (both (leb next k) (either (ltb 0 next) (eqb k first)))

-- A line with the letter of kind k is of that kind where it may come, and else of none.
letters : all (λ (next : ℕ). all (λ (k : ℕ). eqb (kind_for next (kind k).letter) (pick (may_come next k) k none)) none) none ≡ true
unfolding kind_for seek kinds kind unknown pick both either
letters = refl

pub past : (next b : ℕ) → none ≤ next → kind_for next b ≡ none
unfolding kind_for seek
past next b h = rw (drop_of_length-le kinds {i = next} (rw many h))

too-late : (next k : ℕ) → none ≤ next → k < none → may_come next k ≡ false
unfolding both
too-late next k h g = rw (lt-ltb k none g, lt-leb next k (omega arith))

pub letter-kind : (next k : ℕ) → k < none → kind_for next (kind k).letter ≡ pick (may_come next k) k none
unfolding pick
letter-kind next k h = go (ltb next none) refl
  where
    go : (b : Bool) → ltb next none ≡ b → kind_for next (kind k).letter ≡ pick (may_come next k) k none
    go true e = eqb-true _ _ (pairs-at (λ (n : ℕ) (j : ℕ). eqb (kind_for n (kind j).letter) (pick (may_come n j) j none)) none none next k letters (ltb-true next none e) h)
    go false e = past next (kind k).letter (ltb-false next none e) ∙ rw (too-late next k (ltb-false next none e) h)

-- A kind that a letter gives has that letter.
found : (b k : ℕ) (xs : List Kind) → drop k kinds ≡ xs → k + length xs ≡ none → seek b k xs < none → (kind (seek b k xs)).letter ≡ b
unfolding seek pick kind
found b k [] e l h = absurd (omega arith)
found b k (x ∷ xs) e l h = go (eqb x.letter b) x.row refl h (λ i. found b (suc k) xs (cc open_at) (omega arith) i)
  where
    open_at : get_or kinds k unknown ∷ drop (suc k) kinds ≡ x ∷ xs
    open_at = sym (drop-cons kinds k unknown (rw many (omega arith))) ∙ e

    here : eqb x.letter b ≡ true → (kind k).letter ≡ b
    here p = let q : kind k ≡ x = ap (λ (l : List Kind). get_or l 0 unknown) open_at in ap (λ (y : Kind). y.letter) q ∙ eqb-true x.letter b p

    go : (t r : Bool) → eqb x.letter b ≡ t → pick t k (pick r (seek b (suc k) xs) none) < none → (seek b (suc k) xs < none → (kind (seek b (suc k) xs)).letter ≡ b)
        → (kind (pick t k (pick r (seek b (suc k) xs) none))).letter ≡ b
    go true r p h ih = here p
    go false true p h ih = ih h
    go false false p h ih = absurd (omega arith)

pub kind-letter : (next b k : ℕ) → kind_for next b ≡ k → k < none → (kind k).letter ≡ b
unfolding kind_for
kind-letter next b k e h = go (ltb next none) refl
  where
    go : (t : Bool) → ltb next none ≡ t → (kind k).letter ≡ b
    go true p = let u = ltb-true next none p in rw e at (found b next (drop next kinds) refl (omega (arith, many, length-drop next kinds)) (rw e h))
    go false p = absurd (omega (arith, past next b (ltb-false next none p)))

pub known : (next k : ℕ) → may_come next k ≡ true → k < none
known next k e = ltb-true k none (both_left (ltb k none) _ e)

pub not-before : (next k : ℕ) → may_come next k ≡ true → next ≤ k
not-before next k e = leb-true next k (both_left (leb next k) _ (both_right (ltb k none) _ e))

pub first-only : (k : ℕ) → may_come 0 k ≡ true → k ≡ first
unfolding either
first-only k e = eqb-true k first (both_right (leb 0 k) _ (both_right (ltb k none) _ e))

pub may-come : (next k : ℕ) → 0 < next → next ≤ k → k < none → may_come next k ≡ true
unfolding both either
may-come next k p h g = rw (lt-ltb k none g, le-leb next k h, lt-ltb 0 next p)

-- ---- what a kind is
-- It has as many contents as fields; it is a row if it stands between the first kind and the last; no letter is a line feed.
abbrev fit : ℕ → Bool
fit k = both (eqb (length (fields_of (kind k))) (kind k).fields) (both (agree (kind k).row (both (ltb first k) (ltb k last))) (not (eqb (kind k).letter 10)))

fits : all fit none ≡ true
unfolding kinds kind unknown contents fields_of both
fits = refl

fit_at : (k : ℕ) → k < none → fit k ≡ true
fit_at k h = all-at fit none k fits h

pub width_is : (k : ℕ) → k < none → length (fields_of (kind k)) ≡ (kind k).fields
width_is k h = eqb-true _ _ (both_left (eqb (length (fields_of (kind k))) (kind k).fields) _ (fit_at k h))

pub row_is : (k : ℕ) → k < none → (kind k).row ≡ both (ltb first k) (ltb k last)
row_is k h = agreed (kind k).row (both (ltb first k) (ltb k last)) (both_left _ _ (both_right (eqb (length (fields_of (kind k))) (kind k).fields) _ (fit_at k h)))

pub letter-plain : (k : ℕ) → k < none → (kind k).letter ≡ 10 → ⊥
letter-plain k h e =
    eqb-false (kind k).letter 10 (not-true _ (both_right (agree (kind k).row (both (ltb first k) (ltb k last))) _ (both_right (eqb (length (fields_of (kind k))) (kind k).fields) _ (fit_at k h)))) e

-- Its refusals have numbers.
pub over-some : (k : ℕ) → k < none → 0 < (number (kind k).over)
unfolding kinds kind unknown
over-some k h = ltb-true 0 (number (kind k).over) (all-at (λ (j : ℕ). ltb 0 (number (kind j).over)) none k refl h)

pub unfilled-some : (k : ℕ) → k < none → 0 < (number (kind k).unfilled)
unfolding kinds kind unknown
unfilled-some k h = ltb-true 0 (number (kind k).unfilled) (all-at (λ (j : ℕ). ltb 0 (number (kind j).unfilled)) none k refl h)

-- It gives the table as many numbers as it has fields if it is a row, and else none; its heads are fields.
pub numbers-are : (k : ℕ) → k < none → (kind k).numbers ≡ pick (kind k).row (kind k).fields 0
unfolding kinds kind unknown pick
numbers-are k h = eqb-true _ _ (all-at (λ (j : ℕ). eqb (kind j).numbers (pick (kind j).row (kind j).fields 0)) none k refl h)

pub heads-in : (k : ℕ) → k < none → (kind k).heads ≤ (kind k).fields
unfolding kinds kind unknown
heads-in k h = leb-true (kind k).heads (kind k).fields (all-at (λ (j : ℕ). leb (kind j).heads (kind j).fields) none k refl h)

pub numbers-fields : (k : ℕ) → first < k → k < last → (kind k).numbers ≡ (kind k).fields
unfolding both pick
numbers-fields k h g =
    let r : (kind k).row ≡ true = row_is k (omega arith) ∙ rw (lt-ltb first k h, lt-ltb k last g) in
    numbers-are k (omega arith) ∙ ap (λ (b : Bool). pick b (kind k).fields 0) r

pub numbers-same : (k : ℕ) → first < k → k < last → numbers_of (kind k) ≡ fields_of (kind k)
unfolding numbers_of fields_of
numbers-same k h g = rw (numbers-fields k h g)

pub numbers-wide : (k : ℕ) → first < k → k < last → length (numbers_of (kind k)) ≡ (kind k).numbers
numbers-wide k h g = ap length (numbers-same k h g) ∙ (width_is k (omega arith) ∙ sym (numbers-fields k h g))

-- Its limit is small.
pub limit-small : (k : ℕ) → k < none → (kind k).limit < 1000000
unfolding kinds kind unknown
limit-small k h = ltb-true (kind k).limit 1000000 (all-at (λ (j : ℕ). ltb (kind j).limit 1000000) none k refl h)

-- Its contents stand in the list of contents.
pub contents-in : (k : ℕ) → k < none → (kind k).from + (kind k).fields ≤ length contents
unfolding kinds kind unknown contents
contents-in k h = leb-true ((kind k).from + (kind k).fields) (length contents) (all-at (λ (j : ℕ). leb ((kind j).from + (kind j).fields) (length contents)) none k refl h)

-- ---- what its fields hold
-- None of these contents is c.
abbrev lacks : Content → List Content → Bool
lacks c ds = every (λ d. not (eqb (code c) (code d))) ds

pub none_in : (c : Content) (ds : List Content) (vs : List ℤ) → lacks c ds ≡ true → numbers_in c ds vs ≡ []
unfolding numbers_in every cons_if
none_in c [] vs e = refl
none_in c (d ∷ ds) [] e = refl
none_in c (d ∷ ds) (v ∷ vs) e = go (eqb (code c) (code d)) e (λ p. none_in c ds vs p)
  where
    go : (b : Bool) → elim (not b) [ true ↦ every (λ d. not (eqb (code c) (code d))) ds | false ↦ false ] ≡ true → (lacks c ds ≡ true → numbers_in c ds vs ≡ []) → cons_if b v (numbers_in c ds vs) ≡ []
    go true e ih = absurd (clash e)
    go false e ih = ih e

-- Only the first kind says n, only the last the total, and no kind up to the exceptions names one.
abbrev holds : ℕ → Bool
holds k = both (either (eqb k first) (lacks Statements (fields_of (kind k)))) (both (either (eqb k last) (lacks Total (fields_of (kind k)))) (either (ltb exception k) (lacks Exception (fields_of (kind k)))))

held : all holds none ≡ true
unfolding kinds kind unknown contents fields_of both either code every
held = refl

or_else : (a b : Bool) → either a b ≡ true → a ≡ false → b ≡ true
unfolding either
or_else true b e f = absurd (clash (sym f))
or_else false b e f = e

pub no-statements : (k : ℕ) (vs : List ℤ) → k < none → (k ≡ first → ⊥) → numbers_in Statements (fields_of (kind k)) vs ≡ []
no-statements k vs h f =
    none_in Statements (fields_of (kind k)) vs (or_else (eqb k first) _ (both_left _ _ (all-at holds none k held h)) (ne_eqb k first f))

pub no-total : (k : ℕ) (vs : List ℤ) → k < none → (k ≡ last → ⊥) → numbers_in Total (fields_of (kind k)) vs ≡ []
no-total k vs h f =
    none_in Total (fields_of (kind k)) vs (or_else (eqb k last) _ (both_left _ _ (both_right (either (eqb k first) (lacks Statements (fields_of (kind k)))) _ (all-at holds none k held h))) (ne_eqb k last f))

pub no-exception : (k : ℕ) (vs : List ℤ) → k < none → k ≤ exception → numbers_in Exception (fields_of (kind k)) vs ≡ []
no-exception k vs h f =
    none_in Exception (fields_of (kind k)) vs
    (or_else (ltb exception k) _ (both_right (either (eqb k last) (lacks Total (fields_of (kind k)))) _ (both_right (either (eqb k first) (lacks Statements (fields_of (kind k)))) _ (all-at holds none k held h))) (le-ltb exception k f))
