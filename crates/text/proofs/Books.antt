-- Whole books: the lines of a book of this shape, run as a text, give what the table's test gives of its rows; and accepted lines are those
-- of the shape and the rows that they give. The line B is taken off in front, and the laws of the rows do the rest.
use mathlib.Core.Path.{◌≡◌, refl, sym, ap, ◌∙◌}
use mathlib.Core.Bool.{Bool, true, false}
use mathlib.Core.List.{List, [], ◌∷◌, ◌++◌}
use Prim.Native.Nat.{ℕ, zero, suc, ◌+◌, ◌<◌, ◌≤◌}
use native.Mathlib.Nat.{zero-add}
use native.Mathlib.Omega.{arith}
use lib.Dec.{leb}
use lib.IntN.{ℤ, pos, negsuc}
use lib.ListN.{length, get_or, replicate, get_or-replicate}
use borrow.Author.Tests.{le-leb, leb-true}
use Rattle.std.specs.Prelude.{Ok}
use Rattle.logic.specs.Tests.{both, either, pick, cons_if, some}
use Rattle.logic.proofs.Decide.{clash}
use Rattle.book.specs.declared.Shape.{Shape}
use Rattle.book.specs.declared.Content.TheVariants.{Edition, Statements}
use Rattle.book.specs.Faults.{number}
use Rattle.book.specs.Kinds.{kinds, kind, contents, fields_of, first, last, row_once, Range, range_of}
use Rattle.book.specs.Limits as limit
use Rattle.book.specs.Counts.{counts_of, count_at, row_numbers, total, InLimits}
use Rattle.book.proofs.Counts.{limits-from}
use Rattle.logic.proofs.Tests.{both_left, both_right}
use Rattle.text.specs.declared.State.{State}
use Rattle.text.specs.Lines.{Numbers, between, inside, and_then, test_field, code, numbers_in, missing, miscounted, whole_of, unless, judged}
use Rattle.text.specs.Lines.Numbers.{numbers, fault}
use Rattle.text.specs.Lines.Line.{line}
use Rattle.text.specs.Reading.{start, to_nat, last_or, after, step, row_of, read_end, on_line}
use Rattle.text.specs.Reading.Outcome.{accepted}
use Rattle.text.specs.Tables.{Row, layout, cut, rows_of, test_fields, test_rows}
use Rattle.text.specs.Writing.{first_row, last_row, book_rows}
use Rattle.text.proofs.KindFacts.{first-only}
use Rattle.text.proofs.Lines.{run_row, Passed, row-passed, fields-tested, first-numbers}
use Rattle.text.proofs.Texts.{run, went, prepend-none}
use Rattle.text.proofs.Layouts.{occurs, Rising, rising-layout, occurs-layout, sum_by, widths, row_counts, counts-long, all-sum, layout-widths, rows-rising}
use Rattle.text.proofs.Rows.{Fits, run-rows, row-yes, no-heads, ends-unfilled}
use Rattle.text.proofs.Runs.{Form, formed, between-same}

-- n lies in its range.
abbrev pub Sized : ℕ → Type 0
Sized n = inside (range_of Statements 0) (pos n) ≡ true

pub sized-in : (s : Shape) → InLimits s → Sized s.statements
unfolding inside between range_of both
sized-in s l = rw (le-leb 1 s.statements l.some_statement, le-leb s.statements limit.statements l.statements)

pub sized-parts : (n : ℕ) → Sized n → (1 ≤ n) × (n ≤ limit.statements)
unfolding inside between range_of
sized-parts n e = (leb-true 1 n (both_left (leb 1 n) _ e), leb-true n limit.statements (both_right (leb 1 n) _ e))

-- A shape whose n is in its range and whose counts of rows are in their limits is in the limits.
pub limits-are : (s : Shape) → Sized s.statements → ((k : ℕ) → first < k → k < last → count_at s k ≤ (kind k).limit) → InLimits s
limits-are s n w = let z = sized-parts s.statements n in limits-from s z.0 z.1 w

-- ---- the state after B
after_b : ℕ → State
after_b n = record { next = 1; statements = n; counts = 1 ∷ replicate last 0; rows = 0 }

b-step : (n : ℕ) → step start first (pos 1 ∷ pos n ∷ []) ≡ after_b n
unfolding after_b step start after kind kinds pick last_or numbers_in code cons_if fields_of contents to_nat
b-step n = refl

b-counts : (n k : ℕ) → first < k → k < last → get_or (after_b n).counts k 0 ≡ 0
unfolding after_b
b-counts n zero h g = absurd (omega arith)
b-counts n (suc j) h g = get_or-replicate last j 0 0 (omega arith)

b-nums : (vs : List ℤ) → row_of first vs ≡ []
unfolding row_of kind kinds pick
b-nums vs = refl

-- ---- the line B, right
b-row : (n : ℕ) → Sized n → run_row start first (pos 1 ∷ pos n ∷ []) ≡ line first (pos 1 ∷ pos n ∷ [])
unfolding run_row start pick both either judged unless test_fields test_field fields_of contents kind kinds and_then range_of inside between whole_of missing miscounted numbers_in code cons_if some
b-row n h = rw (h, no-heads (kind first) (pos 1 ∷ pos n ∷ []) ends-unfilled.0)

-- How long a layout is: each of its kinds is a row.
rows-once : (ks : List ℕ) (m : ℕ) → first < m → Rising m last ks → length ks ≡ sum_by row_once ks
unfolding sum_by row_once pick
rows-once [] m h r = refl
rows-once (k ∷ ks) m h r = rw (row-yes k (omega (arith, r.0)) r.1) (omega (arith, rows-once ks k (omega (arith, r.0)) r.2))

ends-once : (row_once (kind first) ≡ 0) × (row_once (kind last) ≡ 0)
unfolding row_once kind kinds pick
ends-once = (refl, refl)

total-is : (s : Shape) → length (layout 1 (counts_of s)) ≡ total s
total-is s = omega (arith, rows-once (layout 1 (counts_of s)) 1 (omega arith) (rows-rising s), all-sum row_once s, ends-once.0, ends-once.1)

b-fits : (s : Shape) → Fits (after_b s.statements) s (layout 1 (counts_of s))
unfolding after_b
b-fits s =
    record {
      begun = omega arith;
      not-ended = omega arith;
      rising = rows-rising s;
      long = refl;
      same-n = refl;
      counts-are = λ k h g. counted k h g;
      unclosed = refl;
      rows_are = zero-add (length (layout 1 (counts_of s))) ∙ total-is s;
    }
  where
    counted : (k : ℕ) → first < k → k < last → get_or (after_b s.statements).counts k 0 + occurs k (layout 1 (counts_of s)) ≡ count_at s k
    counted zero h g = absurd (omega arith)
    counted (suc j) h g =
        let q : 1 + j ≡ suc j = omega arith in
        let o : occurs (suc j) (layout 1 (counts_of s)) ≡ count_at s (suc j) = rw q at (occurs-layout (counts_of s) 1 j ∙ row_counts s j (omega (arith, counts-long s))) in
        rw (b-counts s.statements (suc j) h g) (zero-add _ ∙ o)

-- The lines of a book give what the test of its rows gives.
pub run-book : (s : Shape) (ws : List ℤ) → InLimits s → run (book_rows s ws) start 1 ≡ test_rows s (rows_of s ws) 2
unfolding book_rows rows_of first_row run on_line
run-book s ws w =
    rw (b-row s.statements (sized-in s w), b-nums (pos 1 ∷ pos s.statements ∷ []), b-step s.statements)
    (prepend-none (run (cut (layout 1 (counts_of s)) ws ++ (last_row (total s) ∷ [])) (after_b s.statements) 2) ∙ run-rows (layout 1 (counts_of s)) ws (after_b s.statements) s 2 w (b-fits s))

-- ---- accepted lines
pub in-first : (r : Range) (v : ℤ) (y : Numbers) (vs : List ℤ) → test_field (Ok v) r y ≡ numbers vs → inside r v ≡ true
unfolding test_field pick
in-first r v y vs e = go (inside r v) refl e
  where
    go : (b : Bool) → inside r v ≡ b → pick b (and_then v y) (fault (number r.fault)) ≡ numbers vs → inside r v ≡ true
    go true p e = p
    go false p e = absurd (let z : ◌≡◌ {A = ℕ} 0 1 = cc in omega arith)

edition-one : (n : ℕ) (v : ℤ) → inside (range_of Edition n) v ≡ true → v ≡ pos 1
unfolding inside range_of
edition-one n v e = between-same 1 v e

not_negative : (n : ℕ) (v : ℤ) → inside (range_of Statements n) v ≡ true → (pos (to_nat v) ≡ v) × Sized (to_nat v)
unfolding inside between range_of to_nat both
not_negative n (pos m) e = (refl, e)
not_negative n (negsuc m) e = absurd (clash e)

-- The numbers of B: the edition is 1, and n is in its range.
b-numbers : (n : ℕ) (vs : List ℤ) → test_fields (fields_of (kind first)) n vs ≡ numbers vs → (m : ℕ) × (vs ≡ pos 1 ∷ pos m ∷ []) × Sized m
unfolding kind kinds fields_of contents test_fields
b-numbers n [] e = absurd (let z : ◌≡◌ {A = ℕ} 0 1 = cc in omega arith)
b-numbers n (v ∷ []) e = absurd (let z = (fields-tested (Edition ∷ Statements ∷ []) n (v ∷ []) (v ∷ []) e).1 in omega arith)
b-numbers n (v ∷ w ∷ []) e =
    let p = edition-one n v (in-first (range_of Edition n) v _ _ e) in
    let q = not_negative n w (in-first (range_of Statements n) w _ _ (first-numbers (Ok v) (range_of Edition n) (test_field (Ok w) (range_of Statements n) (numbers [])) _ e).3) in
    (to_nat w, rw (p, q.0), q.1)
b-numbers n (v ∷ w ∷ x ∷ vs) e = absurd (let z = (fields-tested (Edition ∷ Statements ∷ []) n (v ∷ w ∷ x ∷ vs) (v ∷ w ∷ x ∷ vs) e).1 in omega arith)

-- What the lines of an accepted book are.
pub record Book (rs : List Row) (s : Shape) (ws : List ℤ) : Type 0 where
  pub rows_are : rs ≡ book_rows s ws
  pub size : length ws ≡ row_numbers s
  pub limits : InLimits s

form-layout : (n : ℕ) (s : Shape) (rs : List Row) (ws : List ℤ) (f : Form (after_b n) s rs ws) → f.ks ≡ layout 1 (counts_of s)
unfolding after_b
form-layout n s rs ws f = rising-layout (counts_of s) 1 last f.ks (sym (counts-long s)) f.rising (λ j h. counted j h)
  where
    counted : (j : ℕ) → j < length (counts_of s) → occurs (1 + j) f.ks ≡ get_or (counts_of s) j 0
    counted j h =
        let q : 1 + j ≡ suc j = omega arith in
        let l : suc j < last = omega (arith, counts-long s) in
        rw (row_counts s j h, q) (sym (zero-add _) ∙ (ap (λ (m : ℕ). m + occurs (suc j) f.ks) (sym (b-counts n (suc j) (omega arith) l)) ∙ f.counts-are (suc j) (omega arith) l))

form-rows : (n : ℕ) (s : Shape) (rs : List Row) (ws : List ℤ) (ks : List ℕ) → ks ≡ layout 1 (counts_of s) → rs ≡ cut ks ws ++ (last_row (0 + length ks) ∷ []) → s.statements ≡ n
    → first_row n ∷ rs ≡ book_rows s ws
unfolding book_rows rows_of
form-rows n s rs ws ks e r q =
    let m : 0 + length ks ≡ total s = zero-add _ ∙ (ap length e ∙ total-is s) in
    ap (λ (l : List Row). first_row n ∷ l) (r ∙ rw (m, e)) ∙ ap (λ (j : ℕ). first_row j ∷ (cut (layout 1 (counts_of s)) ws ++ (last_row (total s) ∷ []))) (sym q)

b-book : (n : ℕ) (s : Shape) (rs : List Row) (ws : List ℤ) → Sized n → Form (after_b n) s rs ws → Book (first_row n ∷ rs) s ws
unfolding after_b
b-book n s rs ws z f =
    let e = form-layout n s rs ws f in
    let q : s.statements ≡ n = f.same-n in
    record {
      rows_are = form-rows n s rs ws f.ks e f.rows_are q;
      size = f.size ∙ (ap widths e ∙ layout-widths s);
      limits = limits-are s (rw q z) (λ k h g. f.few k h g (rw (b-counts n k h g) (omega arith)));
    }

start_is : start.next ≡ 0
unfolding start
start_is = refl

-- The first line of an accepted book, and the rest.
first-join : (r : Row) (rs : List Row) (s : Shape) (ws us : List ℤ) (k : ℕ) (vs : List ℤ) (m : ℕ) → r.place ≡ k → r.nums ≡ vs → k ≡ first → vs ≡ pos 1 ∷ pos m ∷ [] → Sized m
    → ws ≡ row_of k vs ++ us → run rs (step start k vs) 2 ≡ accepted s us → Book (r ∷ rs) s ws
unfolding after_b first_row
first-join r rs s ws us k vs m a b z v n e t =
    let x : r ≡ first_row m = λ i. record { place = (a ∙ z) i; nums = (b ∙ v) i } in
    let y : step start k vs ≡ after_b m = rw (z, v) (b-step m) in
    let w : ws ≡ us = e ∙ rw (z, b-nums vs) in
    rw (x, w) (b-book m s rs us n (formed rs (after_b m) 2 s us (omega arith) (omega arith) refl (rw y at t)))

first-book : (r : Row) (rs : List Row) (s : Shape) (ws us : List ℤ) (k : ℕ) (vs : List ℤ) → Passed start r.place r.nums k vs → ws ≡ row_of k vs ++ us → run rs (step start k vs) 2 ≡ accepted s us → Book (r ∷ rs) s ws
first-book r rs s ws us k vs p e t =
    let z = first-only k (rw start_is at p.placed) in
    let m = b-numbers start.statements vs (rw z at p.fields-pass) in
    first-join r rs s ws us k vs m.0 p.kind-is p.nums-are z m.1 m.2 e t

pub book-run : (rs : List Row) (s : Shape) (ws : List ℤ) → run rs start 1 ≡ accepted s ws → Book rs s ws
unfolding run read_end pick start
book-run [] s ws e = absurd (let z : ◌≡◌ {A = ℕ} 0 1 = cc in omega arith)
book-run (r ∷ rs) s ws e =
    let w = went (run_row start r.place r.nums) 1 (λ k vs. run rs (step start k vs) 2) s ws e in
    first-book r rs s ws w.us w.k w.vs (row-passed start r.place r.nums w.k w.vs w.is) w.all w.then
