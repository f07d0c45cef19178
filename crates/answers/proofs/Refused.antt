-- The refusals of a text: the number is never 0 and has two digits at most, and the line is one of the text's lines, or the line after the
-- last. So an answer that carries number 0 is not a refusal; and both numbers fit their fields, though a text may have more bytes than 9,999.
use Prim.Native.Nat.{ℕ, zero, suc, ◌+◌, ◌<◌, ◌≤◌}
use mathlib.Core.Path.{◌≡◌, refl}
use mathlib.Core.Bool.{Bool, true, false}
use mathlib.Core.List.{List, [], ◌∷◌}
use native.Mathlib.Omega.{arith}
use lib.Dec.{eqb, ltb, leb}
use borrow.Author.Tests.{ltb-true, ltb-false}
use lib.IntN.{ℤ}
use lib.ListN.{length, get_or, drop, get_or-eq_default}
use Rattle.logic.specs.Tests.{pick}
use Rattle.logic.proofs.Tests.{all-at}
use Rattle.book.proofs.Counts.{many}
use Rattle.book.specs.declared.Content.{Content}
use Rattle.book.specs.declared.Content.TheVariants.{Edition, Statements, Literal, Exception, Total}
use Rattle.book.specs.Faults.{number}
use Rattle.book.specs.Kinds.{kinds, kind, unknown, fields_of, bytes, none, exception, Range, range_of, most, longest}
use Rattle.text.specs.declared.State.{State}
use Rattle.std.specs.Prelude.{Result, Ok, Err}
use Rattle.text.specs.Fields.{Misspells, is_stray, is_gapped, is_wrong_zero, first_field}
use Rattle.text.specs.Lines.{Numbers, numbers, fault, and_then, inside, test_field, read_fields, headless, missing, miscounted, whole_of, Line, line, wrong, unless, judged, read_rest, read_kind, kind_for, read_line, lines, to_first}
use Rattle.text.specs.Reading.{Outcome, prepend, on_line, read_end, read_lines, step, row_of, start, last_byte, read_text, shape_of}
use Rattle.text.specs.Reading.Outcome.{accepted, refused}
use Rattle.text.proofs.Spelling.{misspelt-iff}
use Rattle.meaning.specs.Books.{Book, past_exceptions, past_statements, shared}
use Rattle.meaning.specs.Meant.{book_of}
use Rattle.meaning.specs.Order.{Point}
use Rattle.answers.specs.Means.{Means, text_refused, pair_refused, not_refused}

-- The number of a refusal.
pub record Fault (q : ℕ) : Type 0 where
  pub low : 0 < q
  pub high : q < 100

either_way : {A : Type 0} (P : A → Type 0) (b : Bool) (x y : A) → P x → P y → P (pick b x y)
unfolding pick
either_way P true x y p q = p
either_way P false x y p q = q

-- ---- a line
abbrev Faulted : Numbers → Type 0
Faulted (numbers vs) = Unit {0}
Faulted (fault q) = Fault q

abbrev Wronged : Line → Type 0
Wronged (line k vs) = Unit {0}
Wronged (wrong q) = Fault q

range-fault : (c : Content) (n : ℕ) → Fault (number (range_of c n).fault)
unfolding range_of
range-fault Edition n = record { low = omega arith; high = omega arith }
range-fault Statements n = record { low = omega arith; high = omega arith }
range-fault Literal n = record { low = omega arith; high = omega arith }
range-fault Exception n = record { low = omega arith; high = omega arith }
range-fault Total n = record { low = omega arith; high = omega arith }

then-faulted : (v : ℤ) (ns : Numbers) → Faulted ns → Faulted (and_then v ns)
unfolding and_then
then-faulted v (numbers vs) f = tt
then-faulted v (fault q) f = f

-- What four columns are: a number, or misspelt by a refusal.
abbrev Spelt : Result ℤ ℕ → Type 0
Spelt (Ok v) = Unit {0}
Spelt (Err q) = Fault q

spelling-fault : (bs : List ℕ) (q : ℕ) → Misspells bs q → Fault q
spelling-fault bs q (is_stray e) = record { low = omega arith; high = omega arith }
spelling-fault bs q (is_gapped e f) = record { low = omega arith; high = omega arith }
spelling-fault bs q (is_wrong_zero e f g) = record { low = omega arith; high = omega arith }

first-spelt : (bs : List ℕ) → Spelt (first_field bs)
unfolding first_field
first-spelt bs = go (first_field bs) refl
  where
    go : (f : Result ℤ ℕ) → first_field bs ≡ f → Spelt f
    go (Ok v) e = tt
    go (Err q) e = spelling-fault _ q ((misspelt-iff (get_or bs 0 0) (get_or bs 1 0) (get_or bs 2 0) (get_or bs 3 0) q).0 e)

field-faulted : (f : Result ℤ ℕ) (r : Range) (ns : Numbers) → Spelt f → Fault (number r.fault) → Faulted ns → Faulted (test_field f r ns)
unfolding test_field
field-faulted (Err q) r ns s g h = s
field-faulted (Ok v) r ns s g h = either_way Faulted (inside r v) (and_then v ns) (fault (number r.fault)) (then-faulted v ns h) g

fields-faulted : (cs : List Content) (n : ℕ) (bs : List ℕ) → Faulted (read_fields cs n bs)
unfolding read_fields
fields-faulted [] n bs = tt
fields-faulted (c ∷ cs) n bs = field-faulted (first_field bs) (range_of c n) (read_fields cs n (drop 4 bs)) (first-spelt bs) (range-fault c n) (fields-faulted cs n (drop 4 bs))

-- A kind's own refusals have two digits at most.
kind-refusals : (k : ℕ) → ((number (kind k).over) < 100) × ((number (kind k).unfilled) < 100)
unfolding kind kinds unknown
kind-refusals k = go (ltb k none) refl
  where
    go : (b : Bool) → ltb k none ≡ b → ((number (kind k).over) < 100) × ((number (kind k).unfilled) < 100)
    go true p = (
      ltb-true _ _ (all-at (λ (j : ℕ). ltb (number (kind j).over) 100) none k refl (ltb-true k none p)),
      ltb-true _ _ (all-at (λ (j : ℕ). ltb (number (kind j).unfilled) 100) none k refl (ltb-true k none p)),
    )
    go false p = let e : kind k ≡ unknown = get_or-eq_default kinds unknown {n = k} (rw many (ltb-false k none p)) in rw e (omega arith, omega arith)

whole-small : (st : State) (k : ℕ) (vs : List ℤ) → whole_of st k vs < 100
unfolding whole_of
whole-small st k vs =
    let small : ℕ → Type 0 = λ q. q < 100 in
    either_way small (leb (kind k).limit (get_or st.counts k 0)) (number (kind k).over) _ (kind-refusals k).0
    (either_way small (headless (kind k) vs) (number (kind k).unfilled) _ (kind-refusals k).1
    (either_way small (missing (get_or st.counts exception 0) (kind k) vs) 10 _ (omega arith)
    (either_way small (miscounted st.rows (kind k) vs) 11 0 (omega arith) (omega arith))))

unless-wronged : (q : ℕ) (l : Line) → q < 100 → Wronged l → Wronged (unless q l)
unfolding unless
unless-wronged zero l h w = w
unless-wronged (suc q) l h w = record { low = omega arith; high = h }

judged-wronged : (st : State) (k : ℕ) (ns : Numbers) → Faulted ns → Wronged (judged (whole_of st k) k ns)
unfolding judged
judged-wronged st k (numbers vs) f = unless-wronged (whole_of st k vs) (line k vs) (whole-small st k vs) tt
judged-wronged st k (fault q) f = f

rest-wronged : (st : State) (k : ℕ) (bs : List ℕ) → Wronged (read_rest st k bs)
unfolding read_rest
rest-wronged st k bs = either_way Wronged (eqb (2 + length bs) (bytes (kind k))) _ (wrong 4) (judged-wronged st k _ (fields-faulted (fields_of (kind k)) st.statements bs)) (record { low = omega arith; high = omega arith })

line-wronged : (st : State) (l : List ℕ) → Wronged (read_line st l)
unfolding read_line read_kind
line-wronged st [] = record { low = omega arith; high = omega arith }
line-wronged st (b ∷ bs) = either_way Wronged (ltb (kind_for st.next b) none) (read_rest st (kind_for st.next b) bs) (wrong 3) (rest-wronged st (kind_for st.next b) bs) (record { low = omega arith; high = omega arith })

-- ---- the text
-- A refusal is known: its number, and a line up to m.
abbrev pub Known : ℕ → Outcome → Type 0
Known m (accepted s ws) = Unit {0}
Known m (refused q l) = Fault q × (l ≤ m)

prepend-known : (m : ℕ) (vs : List ℤ) (o : Outcome) → Known m o → Known m (prepend vs o)
unfolding prepend
prepend-known m vs (accepted s ws) k = tt
prepend-known m vs (refused q l) k = k

on-known : (m : ℕ) (x : Line) (i : ℕ) (rest : ℕ → List ℤ → Outcome) → Wronged x → i ≤ m → ((k : ℕ) (vs : List ℤ) → Known m (rest k vs)) → Known m (on_line x i rest)
unfolding on_line
on-known m (line k vs) i rest w h f = prepend-known m (row_of k vs) (rest k vs) (f k vs)
on-known m (wrong q) i rest w h f = (w, h)

lines-known : (m : ℕ) (ls : List (List ℕ)) (st : State) (i : ℕ) → i + length ls ≤ m → Known m (read_lines ls st i)
unfolding read_lines read_end
lines-known m [] st i h = either_way (Known m) (eqb st.next none) (accepted (shape_of st) []) (refused 3 i) tt (record { low = omega arith; high = omega arith }, omega arith)
lines-known m (l ∷ ls) st i h = on-known m (read_line st l) i (λ k vs. read_lines ls (step st k vs) (suc i)) (line-wronged st l) (omega arith) (λ k vs. lines-known m ls (step st k vs) (suc i) (omega arith))

first-length : (b : ℕ) (ls : List (List ℕ)) → length (to_first b ls) ≤ suc (length ls)
unfolding to_first
first-length b [] = omega arith
first-length b (l ∷ ls) = omega arith

pub lines-length : (bs : List ℕ) → length (lines bs) ≤ length bs
unfolding lines
lines-length [] = omega arith
lines-length (b ∷ bs) =
    let h = lines-length bs in let g = first-length b (lines bs) in
    either_way (λ (ls : List (List ℕ)). length ls ≤ suc (length bs)) (eqb b 10) ([] ∷ lines bs) (to_first b (lines bs)) (omega arith) (omega arith)

-- Every text's refusal: its line is one of the text's, or the line after the last, or 0.
pub text-known : (bs : List ℕ) → Known (suc (length (lines bs))) (read_text bs)
unfolding read_text last_byte read_lines
text-known bs =
    let m = suc (length (lines bs)) in
    either_way (Known m) (ltb longest (length bs)) (refused 1 0) _ (record { low = omega arith; high = omega arith }, omega arith)
    (either_way (Known m) (eqb (last_byte bs) 10) (read_lines (lines bs) start 1) (refused 2 0) (lines-known m (lines bs) start 1 (omega arith))
    (record { low = omega arith; high = omega arith }, omega arith))

-- A line before the one that is refused has a byte at least and its line feed, so the refusal's line fits a field of 4 columns.
unfoldable weight : List (List ℕ) → ℕ
weight [] = 0
weight (l ∷ ls) = suc (length l) + weight ls

weight-first : (b n : ℕ) (ls : List (List ℕ)) → weight ls ≤ n → 1 ≤ n → weight (to_first b ls) ≤ suc n
unfolding to_first weight
weight-first b n [] h l = omega arith
weight-first b n (x ∷ xs) h l = omega arith

lines-weight : (bs : List ℕ) → weight (lines bs) ≤ suc (length bs)
unfolding lines weight
lines-weight [] = omega arith
lines-weight (b ∷ bs) =
    let h = lines-weight bs in let g = weight-first b (suc (length bs)) (lines bs) h (omega arith) in
    either_way (λ (ls : List (List ℕ)). weight ls ≤ suc (suc (length bs))) (eqb b 10) ([] ∷ lines bs) (to_first b (lines bs)) (omega arith) g

short-lines : (m : ℕ) (ls : List (List ℕ)) (st : State) (i : ℕ) → i + i + weight ls ≤ m + m → Known m (read_lines ls st i)
unfolding read_lines read_end read_line on_line weight
short-lines m [] st i h = either_way (Known m) (eqb st.next none) (accepted (shape_of st) []) (refused 3 i) tt (record { low = omega arith; high = omega arith }, omega arith)
short-lines m ([] ∷ ls) st i h = (record { low = omega arith; high = omega arith }, omega arith)
short-lines m ((b ∷ bs) ∷ ls) st i h =
    on-known m (read_line st (b ∷ bs)) i (λ k vs. read_lines ls (step st k vs) (suc i)) (line-wronged st (b ∷ bs)) (omega arith) (λ k vs. short-lines m ls (step st k vs) (suc i) (omega arith))

longest-few : longest < 19000
unfolding longest most bytes kinds
longest-few = omega arith

pub text-short : (bs : List ℕ) → Known 9999 (read_text bs)
unfolding read_text pick
text-short bs = go (ltb longest (length bs)) refl
  where
    go : (b : Bool) → ltb longest (length bs) ≡ b → Known 9999 (pick b (refused 1 0) (pick (eqb (last_byte bs) 10) (read_lines (lines bs) start 1) (refused 2 0)))
    go true e = (record { low = omega arith; high = omega arith }, omega arith)
    go false e =
        either_way (Known 9999) (eqb (last_byte bs) 10) (read_lines (lines bs) start 1) (refused 2 0)
        (short-lines 9999 (lines bs) start 1 (omega (arith, lines-weight bs, ltb-false longest (length bs) e, longest-few)))
        (record { low = omega arith; high = omega arith }, omega arith)

-- ---- an answer by its meaning
-- What holds of every refusal whose number is not 0, and of all that is right, holds of what an operation answers.
pub means-numbered : {A : Type 0} (down : ℕ → ℕ → A) (right : Book → Point → A → Type 0) (P : A → Type 0) → ((q l : ℕ) → 0 < q → P (down q l))
    → ((b : Book) (from : Point) (x : A) → right b from x → P x) → (bs : List ℕ) (from : Point) (x : A) → Means down right bs from x → P x
means-numbered down right P turned fine bs from x (text_refused f q l e) = turned q l (rw e at (text-known bs)).0.low
means-numbered down right P turned fine bs from x (pair_refused s ws p k e (past_exceptions n)) = turned 12 0 (omega arith)
means-numbered down right P turned fine bs from x (pair_refused s ws p k e (past_statements t n)) = turned 13 0 (omega arith)
means-numbered down right P turned fine bs from x (pair_refused s ws p k e (shared t h d n)) = turned 14 0 (omega arith)
means-numbered down right P turned fine bs from x (not_refused s ws f y e l r) = fine (book_of s ws) from x r
