-- What holds of every accepted book (specs/Accepted): from the test of its table, row by row.
-- By induction on the counts, and within one count on the rows: each row of a block passed its tests, and the rows after the block passed theirs.
use mathlib.Core.Path.{◌≡◌, refl, sym, ap, ◌∙◌}
use mathlib.Core.Bool.{Bool, true, false, not}
use mathlib.Core.List.{List, [], ◌∷◌, ◌++◌}
use Prim.Native.Nat.{ℕ, zero, suc, ◌+◌, ◌*◌, ◌<◌, ◌≤◌}
use native.Mathlib.Nat.{add-zero, zero-mul, suc-mul, mul-le-mul_right, not-suc-le-zero}
use native.Mathlib.Omega.{arith}
use lib.Dec.{eqb, leb}
use lib.IntN.{ℤ, pos, negsuc, neg_ℤ, nat_abs}
use lib.Signed.{le_z}
use lib.ListN.{length, get_or, take, drop, replicate, length-drop, get_or-replicate}
use lib.Seq.{drop-drop, get_or-take, get_or-drop, length-take-le}
use borrow.Author.Tests.{eqb-true, eqb-false, leb-true}
use Rattle.std.specs.Prelude.{Ok}
use Rattle.logic.specs.Tests.{pick, cons_if, some}
use Rattle.logic.proofs.Decide.{clash}
use Rattle.logic.proofs.Tests.{both_left, both_right}
use Rattle.book.specs.declared.Shape.{Shape}
use Rattle.book.specs.declared.Content.{Content}
use Rattle.book.specs.declared.Content.TheVariants.{Edition, Literal, Exception}
use Rattle.book.specs.Faults.{number}
use Rattle.book.specs.Kinds.{kinds, kind, contents, fields_of, numbers_of, none, first, last, plain, alternative, exception, preference, conditional, entries_each, rule_numbers, alternative_numbers, preference_numbers, conditional_numbers, range_of}
use Rattle.book.specs.Counts.{counts_of, count_at, sum_to, start_of, row_numbers, text_bytes, numbers_each}
use Rattle.book.proofs.Counts.{sum-next, sum-up}
use Rattle.text.specs.Lines.{between, inside, code, numbers_in, headless, missing}
use Rattle.text.specs.Lines.Numbers.{numbers}
use Rattle.text.specs.Reading.{read_text, table_of}
use Rattle.text.specs.Reading.Outcome.{accepted}
use Rattle.text.specs.Tables.{layout, cut, rows_of, test_fields, row_fault, test_rows}
use Rattle.text.specs.Accepted.{row_at, RowRight, Accepted}
use Rattle.text.proofs.KindFacts.{unfilled-some, numbers-same, numbers-wide}
use Rattle.text.proofs.Lines.{first-numbers}
use Rattle.text.proofs.Layouts.{row_counts, counts-long}
use Rattle.text.proofs.Books.{in-first}
use Rattle.text.proofs.Written.{Row-passed, next_row, book-bytes}
use Rattle.text.proofs.Inverse.{book-writable, Table, shape-back, table-passed, read-write}

-- ---- a block of rows of one kind
module _ (s s' : Shape) (k : ℕ) (ks : List ℕ) where
  -- The row after i rows of the kind.
  abbrev block_row : List ℤ → ℕ → List ℤ
  block_row ws i = take (kind k).numbers (drop (i * (kind k).numbers) ws)

  block-row : (c : ℕ) (ws ws' : List ℤ) (at i : ℕ) → i < c → test_rows s (cut (replicate c k ++ ks) ws) at ≡ accepted s' ws' → Row-passed s k (block_row ws i) k (block_row ws i)
  block-row zero ws ws' at i h e = absurd (not-suc-le-zero h)
  block-row (suc c) ws ws' at zero h e = rw (zero-mul (kind k).numbers) (next_row s k (replicate c k ++ ks) ws at s' ws' e).passed
  block-row (suc c) ws ws' at (suc i) h e =
      let n = next_row s k (replicate c k ++ ks) ws at s' ws' e in
      let ih = block-row c (drop (kind k).numbers ws) n.us (suc at) i (omega arith) n.then in
      let q : (kind k).numbers + i * (kind k).numbers ≡ suc i * (kind k).numbers = omega (arith, suc-mul i (kind k).numbers) in
      rw (← q) (rw (drop-drop (i * (kind k).numbers) (kind k).numbers ws) at ih)

  block-rest : (c : ℕ) (ws ws' : List ℤ) (at : ℕ) → test_rows s (cut (replicate c k ++ ks) ws) at ≡ accepted s' ws' → (us : List ℤ) × (test_rows s (cut ks (drop (c * (kind k).numbers) ws)) (at + c) ≡ accepted s' us)
  block-rest zero ws ws' at e = (ws', rw (add-zero at, zero-mul (kind k).numbers) e)
  block-rest (suc c) ws ws' at e =
      let n = next_row s k (replicate c k ++ ks) ws at s' ws' e in
      let ih = block-rest c (drop (kind k).numbers ws) n.us (suc at) n.then in
      let q : (kind k).numbers + c * (kind k).numbers ≡ suc c * (kind k).numbers = omega (arith, suc-mul c (kind k).numbers) in
      let r : suc at + c ≡ at + suc c = omega arith in
      (ih.0, rw (← q, ← r) (rw (drop-drop (c * (kind k).numbers) (kind k).numbers ws) at ih.1))

-- Past a block of c rows begin the rows of the next kind.
after_block : (s : Shape) (i c : ℕ) (ws us : List ℤ) (at : ℕ) (ks : List ℕ) {s' : Shape} → c ≡ count_at s i → test_rows s (cut ks (drop (c * (kind i).numbers) (drop (start_of s i) ws))) at ≡ accepted s' us → test_rows s (cut ks (drop (start_of s (suc i)) ws)) at ≡ accepted s' us
unfolding sum_to
after_block s i c ws us at ks e t = rw (← e) (rw (drop-drop (c * (kind i).numbers) (start_of s i) ws) at t)

-- ---- the numbers of a row
inside-at : (cs : List Content) (n : ℕ) (vs us : List ℤ) (j : ℕ) → test_fields cs n vs ≡ numbers us → j < length cs → inside (range_of (get_or cs j Edition) n) (get_or vs j (pos 0)) ≡ true
unfolding test_fields
inside-at [] n vs us j e h = absurd (not-suc-le-zero h)
inside-at (c ∷ cs) n [] us j e h = absurd (let z : ◌≡◌ {A = ℕ} 0 1 = cc in omega arith)
inside-at (c ∷ cs) n (v ∷ vs) us zero e h = in-first (range_of c n) v (test_fields cs n vs) us e
inside-at (c ∷ cs) n (v ∷ vs) us (suc j) e h =
    let g = first-numbers (Ok v) (range_of c n) (test_fields cs n vs) us e in
    inside-at cs n vs g.1 j g.3 (omega arith)

fault-parts : (m k : ℕ) (vs : List ℤ) → k < none → row_fault m (kind k) vs ≡ 0 → (headless (kind k) vs ≡ false) × (missing m (kind k) vs ≡ false)
unfolding row_fault pick
fault-parts m k vs h e = go (headless (kind k) vs) (missing m (kind k) vs) refl refl e
  where
    go : (a b : Bool) → headless (kind k) vs ≡ a → missing m (kind k) vs ≡ b → ◌≡◌ {A = ℕ} (pick a (number (kind k).unfilled) (pick b 10 0)) 0 → (headless (kind k) vs ≡ false) × (missing m (kind k) vs ≡ false)
    go true b p q e = absurd (omega (arith, unfilled-some k h))
    go false true p q e = absurd (omega arith)
    go false false p q e = (p, q)

-- ---- all rows
module _ (s s' : Shape) (ws : List ℤ) where
  -- The rows of the kinds from place i on, with so many of each.
  rows_at : (cs : List ℕ) (i : ℕ) (ws' : List ℤ) (at : ℕ) → ((j : ℕ) → j < length cs → get_or cs j 0 ≡ count_at s (i + j)) → test_rows s (cut (layout i cs) (drop (start_of s i) ws)) at ≡ accepted s' ws'
      → (k r : ℕ) → i ≤ k → k < i + length cs → r < count_at s k → Row-passed s k (row_at s ws k r) k (row_at s ws k r)
  unfolding layout
  rows_at [] i ws' at n e k r h g l = absurd (omega arith)
  rows_at (c ∷ cs) i ws' at n e k r h g l =
      let b = block-rest s s' i (layout (suc i) cs) c (drop (start_of s i) ws) ws' at e in
      go (eqb i k) refl (λ f. rows_at cs (suc i) b.0 (at + c) (λ j m. let p : i + suc j ≡ suc i + j = omega arith in rw p at (n (suc j) (omega arith))) (after_block s i c ws b.0 (at + c) (layout (suc i) cs) here b.1) k r (omega (arith, f)) (omega arith) l)
    where
      here : c ≡ count_at s i
      here = rw (add-zero i) at (n 0 (omega arith))

      first_block : r < count_at s i → Row-passed s i (row_at s ws i r) i (row_at s ws i r)
      first_block l =
          let p = block-row s s' i (layout (suc i) cs) c (drop (start_of s i) ws) ws' at r (rw here l) e in
          rw (drop-drop (r * (kind i).numbers) (start_of s i) ws) at p

      go : (b : Bool) → eqb i k ≡ b → ((i ≡ k → ⊥) → Row-passed s k (row_at s ws k r) k (row_at s ws k r)) → Row-passed s k (row_at s ws k r) k (row_at s ws k r)
      go true p ih = let q = eqb-true i k p in rw q at (first_block (rw q l))
      go false p ih = ih (eqb-false i k p)

-- Row i of the kind at place k, from what it passed.
row-right : (s : Shape) (ws : List ℤ) (k i : ℕ) → first < k → k < last → Row-passed s k (row_at s ws k i) k (row_at s ws k i) → RowRight s ws k i
row-right s ws k i h g p =
    let f = fault-parts s.exceptions k (row_at s ws k i) (omega arith) p.right in
    record {
      ranges = λ j l.
          rw (get_or-take (kind k).numbers (drop (start_of s k + i * (kind k).numbers) ws) j (pos 0) l, get_or-drop (start_of s k + i * (kind k).numbers) ws j (pos 0))
          at (inside-at (numbers_of (kind k)) s.statements (row_at s ws k i) (row_at s ws k i) j p.fields-pass (rw (numbers-wide k h g) l));
      heads = f.0;
      names = f.1;
    }

-- ---- accepted books
none_before : (s : Shape) (ws : List ℤ) → drop (start_of s 1) ws ≡ ws
unfolding sum_to kind kinds
none_before s ws = let z : 0 + count_at s 0 * 0 ≡ 0 = omega arith in rw z

-- The facts of an accepted table, and so of an accepted text.
pub table-facts : (s : Shape) (ws : List ℤ) → Table (table_of s ws) s ws → Accepted s ws
unfolding rows_of
table-facts s ws t =
    let b = shape-back s ws in
    let e : test_rows s (cut (layout 1 (counts_of s)) ws) 2 ≡ accepted s ws = rw (b.0, b.1) at t.pass in
    record {
      limits = rw b.0 at t.limits;
      size = rw (b.0, b.1) at t.size;
      rows = λ k i h g l. row-right s ws k i h g (rows_at s s ws (counts_of s) 1 ws 2 (row_counts s) (rw (none_before s ws) e) k i h (rw (counts-long s) g) l);
    }

pub accepted-facts : (bs : List ℕ) (s : Shape) (ws : List ℤ) → read_text bs ≡ accepted s ws → Accepted s ws
accepted-facts bs s ws e = table-facts s ws (table-passed (table_of s ws) s ws (read-write bs s ws e).0)

-- The bytes of an accepted text.
pub text-length : (bs : List ℕ) (s : Shape) (ws : List ℤ) → read_text bs ≡ accepted s ws → length bs ≡ text_bytes s
text-length bs s ws e =
    let r = read-write bs s ws e in
    let t = table-passed (table_of s ws) s ws r.0 in
    let b = shape-back s ws in
    ap length (sym r.1) ∙ book-bytes s ws (book-writable s ws (rw b.0 at t.limits) s ws (rw (b.0, b.1) at t.pass))

-- ---- what the ranges say
literal-size : (n : ℕ) (v : ℤ) → inside (range_of Literal n) v ≡ true → nat_abs v ≤ n
unfolding inside between range_of
literal-size n (pos m) e = leb-true m n (both_right (le_z (neg_ℤ (pos n)) (pos m)) (leb m n) e)
literal-size zero (negsuc m) e = absurd (clash (both_left (le_z (pos 0) (negsuc m)) _ e))
literal-size (suc n) (negsuc m) e = omega (arith, leb-true m n (both_left (leb m n) _ e))

-- ---- the numbers of accepted rows
-- The number of one of m exceptions.
pub record Named (m : ℕ) (v : ℤ) : Type 0 where
  pub number : ℕ
  pub is : v ≡ pos number
  pub low : 1 ≤ number
  pub high : number ≤ m

exception-named : (m n : ℕ) (v : ℤ) → inside (range_of Exception n) v ≡ true → le_z v (pos m) ≡ true → Named m v
unfolding inside between range_of
exception-named m n (pos a) e f = record { number = a; is = refl; low = leb-true 1 a (both_left (leb 1 a) _ e); high = leb-true a m f }
exception-named m n (negsuc a) e f = absurd (clash (both_left (le_z (pos 1) (negsuc a)) _ e))

-- Exceptions that a row names are the book's own.
some-not : (m : ℕ) (v : ℤ) (vs : List ℤ) → some (λ u. not (le_z u (pos m))) (v ∷ vs) ≡ false → (le_z v (pos m) ≡ true) × (some (λ u. not (le_z u (pos m))) vs ≡ false)
unfolding some
some-not m v vs e = go (le_z v (pos m)) e
  where
    go : (b : Bool) → elim (not b) [ true ↦ true | false ↦ some (λ u. not (le_z u (pos m))) vs ] ≡ false → (b ≡ true) × (some (λ u. not (le_z u (pos m))) vs ≡ false)
    go true e = (refl, e)
    go false e = absurd (clash (sym e))

named-at : (m : ℕ) (cs : List Content) (vs : List ℤ) (j : ℕ) → some (λ u. not (le_z u (pos m))) (numbers_in Exception cs vs) ≡ false → j < length vs → get_or cs j Edition ≡ Exception → le_z (get_or vs j (pos 0)) (pos m) ≡ true
unfolding numbers_in code cons_if
named-at m [] vs j e h c = absurd (let z : ◌≡◌ {A = ℕ} 0 3 = ap code c in omega arith)
named-at m (d ∷ ds) [] j e h c = absurd (not-suc-le-zero h)
named-at m (d ∷ ds) (v ∷ vs) zero e h c = (some-not m v (numbers_in Exception ds vs) (rw c at e)).0
named-at m (d ∷ ds) (v ∷ vs) (suc j) e h c = go (eqb (code Exception) (code d)) e (λ p. named-at m ds vs j p (omega arith) c)
  where
    go : (b : Bool) → some (λ u. not (le_z u (pos m))) (cons_if b v (numbers_in Exception ds vs)) ≡ false → (some (λ u. not (le_z u (pos m))) (numbers_in Exception ds vs) ≡ false → le_z (get_or vs j (pos 0)) (pos m) ≡ true)
        → le_z (get_or vs j (pos 0)) (pos m) ≡ true
    go true e ih = ih (some-not m v (numbers_in Exception ds vs) e).1
    go false e ih = ih e

start-in : (s : Shape) (k i : ℕ) → k < none → i < count_at s k → start_of s k + i * (kind k).numbers + (kind k).numbers ≤ row_numbers s
start-in s k i h l =
    let n = sum-next numbers_each s k (start_of s k) (count_at s k) (kind k).numbers refl refl refl in
    omega (arith, n, sum-up numbers_each s (k + 1) (omega arith), suc-mul i (kind k).numbers, mul-le-mul_right (kind k).numbers l)

-- Number j of row i of the kind at place k, by what it holds: heads and entries lie in -n to n; an exception is one of the book's.
module _ (s : Shape) (ws : List ℤ) (a : Accepted s ws) (k i j : ℕ) (h : first < k) (g : k < last) (l : i < count_at s k) (w : j < (kind k).numbers) where
  literal-at : get_or (numbers_of (kind k)) j Edition ≡ Literal → nat_abs (get_or ws (start_of s k + i * (kind k).numbers + j) (pos 0)) ≤ s.statements
  literal-at c = literal-size s.statements _ (rw c at ((a.rows k i h g l).ranges j w))

  row-long : length (row_at s ws k i) ≡ (kind k).numbers
  row-long = length-take-le (kind k).numbers (drop (start_of s k + i * (kind k).numbers) ws) (simp length-drop (omega (arith, a.size, start-in s k i (omega arith) l)))

  no-larger : get_or (numbers_of (kind k)) j Edition ≡ Exception → le_z (get_or (row_at s ws k i) j (pos 0)) (pos s.exceptions) ≡ true
  unfolding missing
  no-larger c = named-at s.exceptions (fields_of (kind k)) (row_at s ws k i) j (a.rows k i h g l).names (rw row-long w) (rw (numbers-same k h g) at c)

  exception-at : get_or (numbers_of (kind k)) j Edition ≡ Exception → Named s.exceptions (get_or ws (start_of s k + i * (kind k).numbers + j) (pos 0))
  exception-at c =
      exception-named s.exceptions s.statements _ (rw c at ((a.rows k i h g l).ranges j w))
      (rw (get_or-take (kind k).numbers (drop (start_of s k + i * (kind k).numbers) ws) j (pos 0) w, get_or-drop (start_of s k + i * (kind k).numbers) ws j (pos 0)) at (no-larger c))

-- ---- rules
-- A kind of w numbers that are all heads and entries.
abbrev pub RuleKind : ℕ → ℕ → Type 0
RuleKind w k = (first < k) × (k < last) × ((kind k).numbers ≡ w) × (numbers_of (kind k) ≡ replicate w Literal)

pub plain-rules : RuleKind rule_numbers plain
unfolding kind kinds numbers_of contents
plain-rules = (omega arith, omega arith, refl, refl)

pub alternative-rules : RuleKind alternative_numbers alternative
unfolding kind kinds numbers_of contents
alternative-rules = (omega arith, omega arith, refl, refl)

pub exception-rules : RuleKind rule_numbers exception
unfolding kind kinds numbers_of contents
exception-rules = (omega arith, omega arith, refl, refl)

-- Heads and entries lie in -n to n.
pub entry-small : (s : Shape) (ws : List ℤ) → Accepted s ws → {w : ℕ} (k : ℕ) → RuleKind w k → (i j : ℕ) → i < count_at s k → j < w → nat_abs (get_or ws (start_of s k + i * w + j) (pos 0)) ≤ s.statements
entry-small s ws a {w} k r i j l h =
    rw (ap (λ (w : ℕ). start_of s k + i * w + j) r.2)
    at (literal-at s ws a k i j r.0 r.1 l (rw r.2 h) (ap (λ (l : List Content). get_or l j Edition) r.3 ∙ get_or-replicate w j Literal Edition h))

-- ---- preferences
-- P and Q rows begin with two exceptions; in a Q row entries follow.
two-first : (ds : List Content) (j : ℕ) → j < preference_numbers → get_or (Exception ∷ Exception ∷ ds) j Edition ≡ Exception
two-first ds zero h = refl
two-first ds (suc zero) h = refl
two-first ds (suc (suc j)) h = absurd (omega arith)

pub preference-named : (s : Shape) (ws : List ℤ) → Accepted s ws → (i j : ℕ) → i < count_at s preference → j < preference_numbers → Named s.exceptions (get_or ws (start_of s preference + i * preference_numbers + j) (pos 0))
unfolding kind kinds numbers_of contents
preference-named s ws a i j l h = exception-at s ws a preference i j (omega arith) (omega arith) l h (two-first [] j h)

module _ (s : Shape) (ws : List ℤ) (a : Accepted s ws) (i j : ℕ) (l : i < count_at s conditional) where
  pub conditional-named : j < preference_numbers → Named s.exceptions (get_or ws (start_of s conditional + i * conditional_numbers + j) (pos 0))
  unfolding kind kinds numbers_of contents
  conditional-named h = exception-at s ws a conditional i j (omega arith) (omega arith) l (omega arith) (two-first (replicate (entries_each + entries_each) Literal) j h)

  pub conditional-small : preference_numbers ≤ j → j < conditional_numbers → nat_abs (get_or ws (start_of s conditional + i * conditional_numbers + j) (pos 0)) ≤ s.statements
  unfolding kind kinds numbers_of contents
  conditional-small b h = literal-at s ws a conditional i j (omega arith) (omega arith) l h (then-entries j b h)
    where
      then-entries : (j : ℕ) → preference_numbers ≤ j → j < conditional_numbers → get_or (Exception ∷ Exception ∷ replicate (entries_each + entries_each) Literal) j Edition ≡ Literal
      then-entries zero b h = absurd (omega arith)
      then-entries (suc zero) b h = absurd (omega arith)
      then-entries (suc (suc j)) b h = get_or-replicate (entries_each + entries_each) j Literal Edition (omega arith)
