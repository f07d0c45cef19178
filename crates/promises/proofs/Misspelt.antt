-- Request (d): 17 and 18 stand where 5 stood. Today's reading of a text, with 5 told for 17 and 18, is the reading of before: the same texts
-- are accepted, with the same numbers, and the others are refused at the same line, by the same number but for these. Field by field, line by
-- line: no refusal but a misspelt field's is 17 or 18.
use mathlib.Core.Path.{◌≡◌, refl, sym, ap, ◌∙◌}
use mathlib.Core.Bool.{Bool, true, false}
use mathlib.Core.List.{List, [], ◌∷◌}
use mathlib.Core.Logic.{◌↔◌}
use Prim.Native.Nat.{ℕ, zero, suc, ◌+◌}
use native.Mathlib.Omega.{arith}
use lib.Dec.{eqb, ltb, leb}
use lib.IntN.{ℤ}
use lib.ListN.{length, get_or, drop, get_or-eq_default}
use borrow.Author.Tests.{eqb-true, ltb-true, ltb-false}
use Rattle.logic.specs.Tests.{either, pick}
use Rattle.logic.proofs.Tests.{all-at}
use Rattle.book.specs.declared.Content.{Content}
use Rattle.book.specs.declared.Content.TheVariants.{Edition, Statements, Literal, Exception, Total}
use Rattle.book.specs.declared.Shape.{Shape}
use Rattle.book.specs.Faults.{number}
use Rattle.book.specs.Kinds.{kinds, kind, unknown, fields_of, bytes, none, exception, Range, range_of, longest}
use Rattle.book.proofs.Counts.{many}
use Rattle.text.specs.declared.State.{State}
use Rattle.std.specs.Prelude.{Result, Ok, Err}
use Rattle.text.specs.Fields.{size_of, minus_in, signed, misspelling, Misspells, is_stray, is_gapped, is_wrong_zero, read_columns, is_number, spelt, first_field}
use Rattle.text.specs.Lines.{Numbers, Line, lines, kind_for, inside, and_then, test_field, read_fields, headless, missing, miscounted, whole_of, unless, judged, read_rest, read_kind, read_line}
use Rattle.text.specs.Lines.Numbers.{numbers, fault}
use Rattle.text.specs.Lines.Line.{line, wrong}
use Rattle.text.specs.Reading.{Outcome, start, step, row_of, prepend, read_end, on_line, read_lines, last_byte, read_text, shape_of}
use Rattle.text.specs.Reading.Outcome.{accepted, refused}
use Rattle.text.proofs.Spelling.{misspelt-iff}
use Rattle.promises.specs.Misspelt.{columns_before, spelt_before, first_before, fields_before, rest_before, line_before, lines_before, read_before, number_before, told_before}

-- A number that is told as before.
abbrev Same : ℕ → Type 0
Same q = number_before q ≡ q

-- The test of a map over a choice.
pick-map : {A B : Type 0} (f : A → B) (b : Bool) (x y : A) → pick b (f x) (f y) ≡ f (pick b x y)
unfolding pick
pick-map f true x y = refl
pick-map f false x y = refl

same-pick : (b : Bool) (q r : ℕ) → Same q → Same r → Same (pick b q r)
unfolding pick
same-pick true q r e f = e
same-pick false q r e f = f

-- ---- a field
misspelt-before : (bs : List ℕ) (q : ℕ) → Misspells bs q → number_before q ≡ 5
unfolding number_before either pick
misspelt-before bs q (is_stray e) = refl
misspelt-before bs q (is_gapped e f) = refl
misspelt-before bs q (is_wrong_zero e f g) = refl

-- Today's field, told as before: 5 for each of the three.
abbrev told_field : Result ℤ ℕ → Result ℤ ℕ
told_field (Ok v) = Ok v
told_field (Err q) = Err (number_before q)

-- What was read as a number is, and nothing else: the same columns are compared. What was 5 is one of the three.
spelt-before : (a b c d : ℕ) → spelt_before a b c d ≡ told_field (spelt a b c d)
unfolding spelt_before columns_before spelt read_columns pick
spelt-before a b c d = go (is_number a b c d) refl
  where
    go : (t : Bool) → is_number a b c d ≡ t → pick t (Ok (signed (minus_in a b c) (size_of a b c d))) (Err 5)
        ≡ told_field (pick t (Ok (signed (minus_in a b c) (size_of a b c d))) (Err (misspelling (a ∷ b ∷ c ∷ d ∷ []))))
    go true p = refl
    go false p = ap Err (sym (misspelt-before (a ∷ b ∷ c ∷ d ∷ []) (misspelling (a ∷ b ∷ c ∷ d ∷ [])) ((misspelt-iff a b c d (misspelling (a ∷ b ∷ c ∷ d ∷ []))).0 (rw p))))

first-before : (bs : List ℕ) → first_before bs ≡ told_field (first_field bs)
unfolding first_before first_field
first-before bs = spelt-before (get_or bs 0 0) (get_or bs 1 0) (get_or bs 2 0) (get_or bs 3 0)

range_same : (c : Content) (n : ℕ) → Same (number (range_of c n).fault)
unfolding range_of number_before either pick
range_same Edition n = refl
range_same Statements n = refl
range_same Literal n = refl
range_same Exception n = refl
range_same Total n = refl

-- ---- a line's fields
abbrev numbers_before : Numbers → Numbers
numbers_before (numbers vs) = numbers vs
numbers_before (fault q) = fault (number_before q)

then-before : (v : ℤ) (ns : Numbers) → and_then v (numbers_before ns) ≡ numbers_before (and_then v ns)
unfolding and_then
then-before v (numbers vs) = refl
then-before v (fault q) = refl

field-before : (f : Result ℤ ℕ) (r : Range) (ns : Numbers) → Same (number r.fault) → test_field (told_field f) r (numbers_before ns) ≡ numbers_before (test_field f r ns)
unfolding test_field
field-before (Err q) r ns e = refl
field-before (Ok v) r ns e =
    rw (then-before v ns) (ap (λ (q : ℕ). pick (inside r v) (numbers_before (and_then v ns)) (fault q)) (sym e) ∙ pick-map numbers_before (inside r v) (and_then v ns) (fault (number r.fault)))

fields-before : (cs : List Content) (n : ℕ) (bs : List ℕ) → fields_before cs n bs ≡ numbers_before (read_fields cs n bs)
unfolding fields_before read_fields
fields-before [] n bs = refl
fields-before (c ∷ cs) n bs =
    rw (first-before bs, fields-before cs n (drop 4 bs)) (field-before (first_field bs) (range_of c n) (read_fields cs n (drop 4 bs)) (range_same c n))

-- ---- a line
-- A kind's own refusals are neither 17 nor 18.
kind-same : (k : ℕ) → Same (number (kind k).over) × Same (number (kind k).unfilled)
unfolding kind kinds unknown number_before either pick
kind-same k = go (ltb k none) refl
  where
    go : (b : Bool) → ltb k none ≡ b → Same (number (kind k).over) × Same (number (kind k).unfilled)
    go true p = (
      eqb-true _ _ (all-at (λ (j : ℕ). eqb (number_before (number (kind j).over)) (number (kind j).over)) none k refl (ltb-true k none p)),
      eqb-true _ _ (all-at (λ (j : ℕ). eqb (number_before (number (kind j).unfilled)) (number (kind j).unfilled)) none k refl (ltb-true k none p)),
    )
    go false p = let e : kind k ≡ unknown = get_or-eq_default kinds unknown {n = k} (rw many (ltb-false k none p)) in rw e (refl, refl)

whole_same : (st : State) (k : ℕ) (vs : List ℤ) → Same (whole_of st k vs)
unfolding whole_of number_before either pick
whole_same st k vs =
    same-pick (leb (kind k).limit (get_or st.counts k 0)) (number (kind k).over) _ (kind-same k).0
    (same-pick (headless (kind k) vs) (number (kind k).unfilled) _ (kind-same k).1
    (same-pick (missing (get_or st.counts exception 0) (kind k) vs) 10 _ ten
    (same-pick (miscounted st.rows (kind k) vs) 11 0 eleven none_told)))
  where
    ten : Same 10
    ten = refl

    eleven : Same 11
    eleven = refl

    none_told : Same 0
    none_told = refl

abbrev told_line : Line → Line
told_line (line k vs) = line k vs
told_line (wrong q) = wrong (number_before q)

unless-before : (q k : ℕ) (vs : List ℤ) → Same q → unless q (line k vs) ≡ told_line (unless q (line k vs))
unfolding unless
unless-before zero k vs e = refl
unless-before (suc q) k vs e = ap wrong (sym e)

judged-before : (whole : List ℤ → ℕ) (k : ℕ) (ns : Numbers) → ((vs : List ℤ) → Same (whole vs)) → judged whole k (numbers_before ns) ≡ told_line (judged whole k ns)
unfolding judged
judged-before whole k (numbers vs) e = unless-before (whole vs) k vs (e vs)
judged-before whole k (fault q) e = refl

rest-before : (st : State) (k : ℕ) (bs : List ℕ) → rest_before st k bs ≡ told_line (read_rest st k bs)
unfolding rest_before read_rest number_before either pick
rest-before st k bs =
    rw (fields-before (fields_of (kind k)) st.statements bs, judged-before (whole_of st k) k (read_fields (fields_of (kind k)) st.statements bs) (whole_same st k))
    (pick-map told_line (eqb (2 + length bs) (bytes (kind k))) (judged (whole_of st k) k (read_fields (fields_of (kind k)) st.statements bs)) (wrong 4))

line_before_lem : (st : State) (l : List ℕ) → line_before st l ≡ told_line (read_line st l)
unfolding line_before read_line read_kind number_before either pick
line_before_lem st [] = refl
line_before_lem st (b ∷ bs) =
    rw (rest-before st (kind_for st.next b) bs) (pick-map told_line (ltb (kind_for st.next b) none) (read_rest st (kind_for st.next b) bs) (wrong 3))

-- ---- the text
prepend-before : (vs : List ℤ) (o : Outcome) → prepend vs (told_before o) ≡ told_before (prepend vs o)
unfolding prepend told_before
prepend-before vs (accepted s ws) = refl
prepend-before vs (refused q at) = refl

on-line-before : (l : Line) (at : ℕ) (f g : ℕ → List ℤ → Outcome) → ((k : ℕ) (vs : List ℤ) → f k vs ≡ told_before (g k vs)) → on_line (told_line l) at f ≡ told_before (on_line l at g)
unfolding on_line told_before
on-line-before (wrong q) at f g e = refl
on-line-before (line k vs) at f g e = ap (prepend (row_of k vs)) (e k vs) ∙ prepend-before (row_of k vs) (g k vs)

lines-before : (ls : List (List ℕ)) (st : State) (at : ℕ) → lines_before ls st at ≡ told_before (read_lines ls st at)
unfolding lines_before read_lines read_end told_before number_before either pick
lines-before [] st at = pick-map told_before (eqb st.next none) (accepted (shape_of st) []) (refused 3 at)
lines-before (l ∷ ls) st at = rw (line_before_lem st l) (on-line-before (read_line st l) at _ _ (λ k vs. lines-before ls (step st k vs) (suc at)))

-- "All three stand where 5 stood": today's reading, with 5 told for 17 and 18, is the reading of before.
pub where-five-stood : (bs : List ℕ) → read_before bs ≡ told_before (read_text bs)
unfolding read_before read_text told_before number_before either pick
where-five-stood bs = rw (lines-before (lines bs) start 1)
    (ap (λ (o : Outcome). pick (ltb longest (length bs)) (refused 1 0) o) (pick-map told_before (eqb (last_byte bs) 10) (read_lines (lines bs) start 1) (refused 2 0))
    ∙ pick-map told_before (ltb longest (length bs)) (refused 1 0) (pick (eqb (last_byte bs) 10) (read_lines (lines bs) start 1) (refused 2 0)))

-- So the same texts are accepted, with the same shape and rows.
pub accepted-as-before : (bs : List ℕ) (s : Shape) (ws : List ℤ) → (read_before bs ≡ accepted s ws) ↔ (read_text bs ≡ accepted s ws)
unfolding told_before
accepted-as-before bs s ws = (λ e. there (read_text bs) (sym (where-five-stood bs) ∙ e), λ e. where-five-stood bs ∙ ap told_before e ∙ kept)
  where
    there : (o : Outcome) → told_before o ≡ accepted s ws → o ≡ accepted s ws
    there (accepted r vs) e = e
    there (refused q at) e = absurd (let z : ◌≡◌ {A = ℕ} 0 1 = cc in omega arith)

    kept : told_before (accepted s ws) ≡ accepted s ws
    kept = refl
