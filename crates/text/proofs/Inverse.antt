-- Read and Write are inverse to each other, the promises of document 01 ('Six operations', 6): `read-write`, `write_read`, `same-table`.
-- From the laws of lines, of rows and of whole books: an accepted text is the text of the shape and the rows that it gives.
use mathlib.Core.Path.{◌≡◌, refl, sym, ap, ◌∙◌}
use mathlib.Core.Bool.{Bool, true, false, not}
use mathlib.Core.List.{List, [], ◌∷◌, ◌++◌}
use Prim.Native.Nat.{ℕ, zero, suc, ◌+◌, ◌<◌, ◌≤◌}
use native.Mathlib.Omega.{arith}
use lib.Dec.{eqb, ltb, leb}
use lib.IntN.{ℤ, pos, negsuc}
use lib.Signed.{le_z}
use lib.ListN.{length, get_or, drop, length-drop}
use borrow.Author.Tests.{eqb-true, eq-eqb, ltb-true, ltb-false, le-ltb, le-leb, leb-true, not-false}
use Rattle.logic.specs.Lists.{Every}
use Rattle.logic.specs.Tests.{both, pick, some}
use Rattle.logic.proofs.Decide.{clash}
use Rattle.book.specs.declared.Kind.{Kind}
use Rattle.book.specs.declared.Shape.{Shape}
use Rattle.book.specs.declared.Content.TheVariants.{Statements}
use Rattle.book.specs.Kinds.{kinds, kind, unknown, none, first, last, plain, alternative, exception, preference, conditional, front, most, longest, row_once, most_rows, range_of}
use Rattle.book.specs.Counts.{counts_of, front_of, all_counts, count_at, shape_from, total, row_numbers, InLimits}
use Rattle.book.proofs.Counts.{many}
use Rattle.text.specs.Lines.{between, inside, lines}
use Rattle.text.specs.Reading.{start, to_nat, read_lines, last_byte, read_text, table_of}
use Rattle.text.specs.Reading.Outcome.{accepted, refused}
use Rattle.text.specs.Tables.{Row, layout, cut, rows_of, test_rows, shape_in, miscount, test_table}
use Rattle.text.specs.Writing.{first_row, last_row, book_rows, row_lines, text_of}
use Rattle.logic.proofs.Tests.{both_left, both_right}
use Rattle.text.specs.Fields.{Short}
use Rattle.text.proofs.Texts.{run, Writable, rows-read, read-rows, rows-plain, lines-unlines, unlines-lines, last-unlines}
use Rattle.text.proofs.Layouts.{rows-rising, layout-widths}
use Rattle.text.proofs.Rows.{few-rows, row-yes}
use Rattle.text.proofs.Books.{Sized, sized-in, limits-are, Book, book-run, run-book}
use Rattle.text.proofs.Written.{rows-tested, rows-writable, text-fits}

-- ---- a book that can be written
every_append : {A : Type 0} (P : A → Type 0) (xs ys : List A) → Every P xs → Every P ys → Every P (xs ++ ys)
every_append P [] ys p q = q
every_append P (x ∷ xs) ys p q = (p.0, every_append P xs ys p.1 q)

first-writable : (n : ℕ) → n < 1000 → Writable (first_row n)
unfolding first_row kind kinds Short
first-writable n h = record { known = omega arith; short = (omega arith, (omega arith, tt)); wide = refl }

last-writable : (m : ℕ) → m ≤ most_rows → Writable (last_row m)
unfolding last_row kind kinds Short most_rows most row_once pick
last-writable m h = record { known = omega arith; short = (omega arith, tt); wide = refl }

text-ends : (s : Shape) (ws : List ℤ) → last_byte (text_of s ws) ≡ 10
unfolding text_of book_rows row_lines
text-ends s ws = last-unlines _ (row_lines (rows_of s ws ++ (last_row (total s) ∷ [])))

module _ (s : Shape) (ws : List ℤ) (l : InLimits s) (s' : Shape) (ws' : List ℤ) (e : test_rows s (rows_of s ws) 2 ≡ accepted s' ws') where
  pub book-writable : Every Writable (book_rows s ws)
  unfolding book_rows rows_of
  book-writable = (
    first-writable s.statements (omega (arith, l.statements)),
    every_append Writable (cut (layout 1 (counts_of s)) ws) (last_row (total s) ∷ [])
        (rows-writable (layout 1 (counts_of s)) s ws 2 1 s' ws' (omega arith) (rows-rising s) (omega (arith, l.statements)) e)
        (last-writable (total s) (few-rows s l), tt),
  )

  text-lines : read_lines (lines (text_of s ws)) start 1 ≡ test_rows s (rows_of s ws) 2
  unfolding text_of
  text-lines =
      rw (lines-unlines (row_lines (book_rows s ws)) (rows-plain (book_rows s ws) book-writable))
      (rows-read (book_rows s ws) start 1 book-writable ∙ run-book s ws l)

  -- The text of a book whose rows pass gives what their test gives.
  pub text-read : read_text (text_of s ws) ≡ test_rows s (rows_of s ws) 2
  unfolding read_text pick
  text-read = rw (le-ltb longest (length (text_of s ws)) (text-fits s ws l book-writable), eq-eqb (last_byte (text_of s ws)) 10 (text-ends s ws)) text-lines

-- ---- tables
-- The counts in front of a table, by the kinds' rows: each stands where its kind says.
front_long : (s : Shape) (ws : List ℤ) → length (table_of s ws) ≡ front + length ws
unfolding table_of front_of
front_long s ws = omega arith

pub shape-back : (s : Shape) (ws : List ℤ) → (shape_in (table_of s ws) ≡ s) × (drop front (table_of s ws) ≡ ws)
unfolding shape_in table_of front_of shape_from kinds to_nat
shape-back s ws = (refl, refl)

count_at_lem : (s : Shape) (ws : List ℤ) (k : ℕ) → first < k → k < last → get_or (table_of s ws) (kind k).count (pos 0) ≡ pos (count_at s k)
unfolding table_of front_of count_at all_counts counts_of kind kinds
count_at_lem s ws zero h g = absurd (omega arith)
count_at_lem s ws (suc zero) h g = refl
count_at_lem s ws (suc (suc zero)) h g = refl
count_at_lem s ws (suc (suc (suc zero))) h g = refl
count_at_lem s ws (suc (suc (suc (suc zero)))) h g = refl
count_at_lem s ws (suc (suc (suc (suc (suc zero))))) h g = refl
count_at_lem s ws (suc (suc (suc (suc (suc (suc k)))))) h g = absurd (omega arith)

counted : (t : List ℤ) (k : ℕ) → first < k → k < last → count_at (shape_in t) k ≡ to_nat (get_or t (kind k).count (pos 0))
unfolding shape_in shape_from count_at all_counts counts_of kind kinds
counted t zero h g = absurd (omega arith)
counted t (suc zero) h g = refl
counted t (suc (suc zero)) h g = refl
counted t (suc (suc (suc zero))) h g = refl
counted t (suc (suc (suc (suc zero)))) h g = refl
counted t (suc (suc (suc (suc (suc zero))))) h g = refl
counted t (suc (suc (suc (suc (suc (suc k)))))) h g = absurd (omega arith)

-- Some test of a list holds if it holds at a place, and only then.
some-none : {A : Type 0} (f : A → Bool) (xs : List A) (d : A) → ((k : ℕ) → k < length xs → f (get_or xs k d) ≡ false) → some f xs ≡ false
unfolding some
some-none f [] d h = refl
some-none f (x ∷ xs) d h = ap (λ (b : Bool). elim b [ true ↦ true | false ↦ some f xs ]) (h 0 (omega arith)) ∙ some-none f xs d (λ k g. h (suc k) (omega arith))

none-some : {A : Type 0} (f : A → Bool) (xs : List A) (d : A) (k : ℕ) → some f xs ≡ false → k < length xs → f (get_or xs k d) ≡ false
unfolding some
none-some f [] d k e h = absurd (omega arith)
none-some f (x ∷ xs) d zero e h = go (f x) refl e
  where
    go : (b : Bool) → f x ≡ b → elim b [ true ↦ true | false ↦ some f xs ] ≡ false → f x ≡ false
    go true p e = absurd (clash (sym e))
    go false p e = p
none-some f (x ∷ xs) d (suc k) e h = none-some f xs d k (go (f x) e) (omega arith)
  where
    go : (b : Bool) → elim b [ true ↦ true | false ↦ some f xs ] ≡ false → some f xs ≡ false
    go true e = absurd (clash (sym e))
    go false e = e

-- The count of a kind of row, in its limit.
count-in : (t : List ℤ) (k m : ℕ) → get_or t (kind k).count (pos 0) ≡ pos m → m ≤ (kind k).limit → miscount t (kind k) ≡ false
unfolding miscount between both
count-in t k m e h = rw (e, le-leb 0 m (omega arith), le-leb m (kind k).limit h) (go (kind k).row)
  where
    go : (b : Bool) → both b false ≡ false
    go true = refl
    go false = refl

no_row : (t : List ℤ) (x : Kind) → x.row ≡ false → miscount t x ≡ false
unfolding miscount both
no_row t x e = rw e

ends-no-rows : ((kind first).row ≡ false) × ((kind last).row ≡ false)
unfolding kind kinds
ends-no-rows = (refl, refl)

counts-in : (s : Shape) (ws : List ℤ) → InLimits s → some (miscount (table_of s ws)) kinds ≡ false
unfolding kind
counts-in s ws l = some-none (miscount (table_of s ws)) kinds unknown (λ k h. each k (rw many at h) (ltb first k) (ltb k last) refl refl)
  where
    each : (k : ℕ) → k < none → (x y : Bool) → ltb first k ≡ x → ltb k last ≡ y → miscount (table_of s ws) (kind k) ≡ false
    each k h false y p q = let e : k ≡ first = omega (arith, ltb-false first k p) in rw e (no_row (table_of s ws) (kind first) ends-no-rows.0)
    each k h true false p q = let e : k ≡ last = omega (arith, ltb-false k last q) in rw e (no_row (table_of s ws) (kind last) ends-no-rows.1)
    each k h true true p q = count-in (table_of s ws) k (count_at s k) (count_at_lem s ws k (ltb-true first k p) (ltb-true k last q)) (l.counts k)

n-first : (s : Shape) (ws : List ℤ) → get_or (table_of s ws) 0 (pos 0) ≡ pos s.statements
unfolding table_of front_of
n-first s ws = refl

-- A table of a shape in its limits and of the right length is tested by its rows.
pub table-rows : (s : Shape) (ws : List ℤ) → InLimits s → length ws ≡ row_numbers s → test_table (table_of s ws) ≡ test_rows s (rows_of s ws) 2
unfolding test_table pick
table-rows s ws l e =
    rw (
      front_long s ws,
      le-ltb (front + length ws) front (omega arith),
      n-first s ws,
      sized-in s l,
      counts-in s ws l,
      (shape-back s ws).0,
      (shape-back s ws).1,
      eq-eqb (front + length ws) (front + row_numbers s) (omega arith),
    )

down-up : (q l : ℕ) (s : Shape) (ws : List ℤ) → refused q l ≡ accepted s ws → ⊥
down-up q l s ws e = let z : ◌≡◌ {A = ℕ} 0 1 = cc in omega arith

-- A count that is not refused is a number in its limit.
count-is : (v : ℤ) (m : ℕ) → between (pos 0) (pos m) v ≡ true → (pos (to_nat v) ≡ v) × (to_nat v ≤ m)
unfolding between to_nat
count-is (pos n) m e = (refl, leb-true n m (both_right (leb 0 n) (leb n m) e))
count-is (negsuc n) m e = absurd (clash (both_left (le_z (pos 0) (negsuc n)) (le_z (negsuc n) (pos m)) e))

n-is : (v : ℤ) → inside (range_of Statements 0) v ≡ true → (pos (to_nat v) ≡ v) × Sized (to_nat v)
unfolding inside between range_of to_nat
n-is (pos m) e = (refl, e)
n-is (negsuc m) e = absurd (clash (both_left (le_z (pos 1) (negsuc m)) _ e))

front-numbers : (t : List ℤ) → front ≤ length t → get_or t 0 (pos 0) ∷ get_or t 1 (pos 0) ∷ get_or t 2 (pos 0) ∷ get_or t 3 (pos 0) ∷ get_or t 4 (pos 0) ∷ get_or t 5 (pos 0) ∷ drop front t ≡ t
front-numbers [] h = absurd (omega arith)
front-numbers (a ∷ []) h = absurd (omega arith)
front-numbers (a ∷ b ∷ []) h = absurd (omega arith)
front-numbers (a ∷ b ∷ c ∷ []) h = absurd (omega arith)
front-numbers (a ∷ b ∷ c ∷ d ∷ []) h = absurd (omega arith)
front-numbers (a ∷ b ∷ c ∷ d ∷ e ∷ []) h = absurd (omega arith)
front-numbers (a ∷ b ∷ c ∷ d ∷ e ∷ f ∷ t) h = refl

-- What an accepted table is.
pub record Table (t : List ℤ) (s : Shape) (ws : List ℤ) : Type 0 where
  pub shape_is : s ≡ shape_in t
  pub rows_are : ws ≡ drop front t
  pub table_is : table_of (shape_in t) (drop front t) ≡ t
  pub limits : InLimits (shape_in t)
  pub size : length (drop front t) ≡ row_numbers (shape_in t)
  pub pass : test_rows (shape_in t) (rows_of (shape_in t) (drop front t)) 2 ≡ accepted s ws

module _ (t : List ℤ) (long : front ≤ length t) (n : inside (range_of Statements 0) (get_or t 0 (pos 0)) ≡ true) (few : some (miscount t) kinds ≡ false) where
  count-right : (k : ℕ) → first < k → k < last → between (pos 0) (pos (kind k).limit) (get_or t (kind k).count (pos 0)) ≡ true
  unfolding miscount kind both
  count-right k h g = not-false _ (rw (row-yes k h g) at (none-some (miscount t) kinds unknown k few (rw many (omega arith))))

  sized : Sized (shape_in t).statements
  unfolding shape_in shape_from
  sized = (n-is (get_or t 0 (pos 0)) n).1

  -- The shape in front of a table whose n and counts are right.
  pub shape-limits : InLimits (shape_in t)
  shape-limits = limits-are (shape_in t) sized (λ k h g. rw (counted t k h g) (count-is _ _ (count-right k h g)).1)

  whole-table : table_of (shape_in t) (drop front t) ≡ t
  unfolding table_of front_of shape_in shape_from kind kinds
  whole-table =
      rw (
        (n-is (get_or t 0 (pos 0)) n).0,
        (count-is _ _ (count-right plain (omega arith) (omega arith))).0,
        (count-is _ _ (count-right exception (omega arith) (omega arith))).0,
        (count-is _ _ (count-right preference (omega arith) (omega arith))).0,
        (count-is _ _ (count-right conditional (omega arith) (omega arith))).0,
        (count-is _ _ (count-right alternative (omega arith) (omega arith))).0,
      )
      (front-numbers t long)

  module _ (s : Shape) (ws : List ℤ) (exact : length t ≡ front + row_numbers (shape_in t)) (e : test_rows (shape_in t) (rows_of (shape_in t) (drop front t)) 2 ≡ accepted s ws) where
    rest-size : length (drop front t) ≡ row_numbers (shape_in t)
    rest-size = length-drop front t ∙ omega (arith, exact)

    table-from : Table t s ws
    unfolding rows_of
    table-from =
        let r = rows-tested (layout 1 (counts_of (shape_in t))) (shape_in t) (drop front t) 2 1 s ws (omega arith) (rows-rising (shape_in t)) (rest-size ∙ sym (layout-widths (shape_in t))) e in
        record { shape_is = r.0; rows_are = r.1; table_is = whole-table; limits = shape-limits; size = rest-size; pass = e }

pub table-passed : (t : List ℤ) (s : Shape) (ws : List ℤ) → test_table t ≡ accepted s ws → Table t s ws
unfolding test_table pick
table-passed t s ws e =
    go (ltb (length t) front) (inside (range_of Statements 0) (get_or t 0 (pos 0))) (some (miscount t) kinds) (eqb (length t) (front + row_numbers (shape_in t))) refl refl refl refl e
  where
    go : (a b x w : Bool) → ltb (length t) front ≡ a → inside (range_of Statements 0) (get_or t 0 (pos 0)) ≡ b → some (miscount t) kinds ≡ x → eqb (length t) (front + row_numbers (shape_in t)) ≡ w
        → pick a (refused 16 0) (pick (not b) (refused 6 1) (pick x (refused 8 1) (pick (not w) (refused 16 0) (test_rows (shape_in t) (rows_of (shape_in t) (drop front t)) 2)))) ≡ accepted s ws → Table t s ws
    go true b x w p q i l e = absurd (down-up 16 0 s ws e)
    go false false x w p q i l e = absurd (down-up 6 1 s ws e)
    go false true true w p q i l e = absurd (down-up 8 1 s ws e)
    go false true false false p q i l e = absurd (down-up 16 0 s ws e)
    go false true false true p q i l e = table-from t (ltb-false (length t) front p) q i s ws (eqb-true _ _ l) e

-- ---- the promises
-- What an accepted text passed.
text-passed : (bs : List ℕ) (s : Shape) (ws : List ℤ) → read_text bs ≡ accepted s ws → (last_byte bs ≡ 10) × (read_lines (lines bs) start 1 ≡ accepted s ws)
unfolding read_text pick
text-passed bs s ws e = go (ltb longest (length bs)) (eqb (last_byte bs) 10) refl e
  where
    go : (a b : Bool) → eqb (last_byte bs) 10 ≡ b → pick a (refused 1 0) (pick b (read_lines (lines bs) start 1) (refused 2 0)) ≡ accepted s ws → (last_byte bs ≡ 10) × (read_lines (lines bs) start 1 ≡ accepted s ws)
    go true b p e = absurd (down-up 1 0 s ws e)
    go false true p e = (eqb-true (last_byte bs) 10 p, e)
    go false false p e = absurd (down-up 2 0 s ws e)

rows_back : (rs : List Row) (s : Shape) (ws : List ℤ) (bs : List ℕ) → rs ≡ book_rows s ws → lines bs ≡ row_lines rs → last_byte bs ≡ 10 → text_of s ws ≡ bs
unfolding text_of
rows_back rs s ws bs e l z = rw (← e, ← l) (unlines-lines bs z)

run-back : (rs : List Row) (s : Shape) (ws : List ℤ) → Book rs s ws → run rs start 1 ≡ accepted s ws → test_table (table_of s ws) ≡ accepted s ws
run-back rs s ws b e = table-rows s ws b.limits b.size ∙ (sym (run-book s ws b.limits) ∙ (ap (λ (l : List Row). run l start 1) (sym b.rows_are) ∙ e))

-- For every accepted text, its table is accepted, and writing it gives the text back, byte for byte.
pub read-write : (bs : List ℕ) (s : Shape) (ws : List ℤ) → read_text bs ≡ accepted s ws → (test_table (table_of s ws) ≡ accepted s ws) × (text_of s ws ≡ bs)
read-write bs s ws e =
    let p = text-passed bs s ws e in
    let r = read-rows (lines bs) start 1 s ws p.1 in
    let b = book-run r.0 s ws r.2 in
    (run-back r.0 s ws b r.2, rows_back r.0 s ws bs b.rows_are r.1 p.0)

table-read : (t : List ℤ) (s : Shape) (ws : List ℤ) → Table t s ws → s ≡ shape_in t → ws ≡ drop front t → read_text (text_of s ws) ≡ accepted s ws
table-read t s ws p e f = rw (e, f) (text-read (shape_in t) (drop front t) p.limits s ws p.pass ∙ (p.pass ∙ rw (e, f)))

-- For every accepted table, its text is accepted, and reading it gives the table back.
pub write_read : (t : List ℤ) (s : Shape) (ws : List ℤ) → test_table t ≡ accepted s ws → (read_text (text_of s ws) ≡ accepted s ws) × (table_of s ws ≡ t)
write_read t s ws e =
    let p = table-passed t s ws e in
    (table-read t s ws p p.shape_is p.rows_are, rw (p.shape_is, p.rows_are) p.table_is)

same_text : (s s' : Shape) (ws ws' : List ℤ) → table_of s ws ≡ table_of s' ws' → text_of s ws ≡ text_of s' ws'
same_text s s' ws ws' q =
    let a = shape-back s ws in
    let b = shape-back s' ws' in
    rw (a.0, a.1, b.0, b.1) at (ap (λ (t : List ℤ). text_of (shape_in t) (drop front t)) q)

-- Two accepted texts with the same table are equal.
pub same-table : (bs cs : List ℕ) (s s' : Shape) (ws ws' : List ℤ) → read_text bs ≡ accepted s ws → read_text cs ≡ accepted s' ws' → table_of s ws ≡ table_of s' ws' → bs ≡ cs
same-table bs cs s s' ws ws' e f q = sym (read-write bs s ws e).1 ∙ (same_text s s' ws ws' q ∙ (read-write cs s' ws' f).1)
