-- The rows of an accepted table can be written: each number has four columns, each row its kind's fields, and the text is not too long.
-- By the range of each content; the length by induction on the counts, each at most its kind's limit.
use mathlib.Core.Path.{◌≡◌, refl, ap, ◌∙◌}
use mathlib.Core.Bool.{true}
use mathlib.Core.List.{List, [], ◌∷◌, ◌++◌}
use Prim.Native.Nat.{ℕ, zero, suc, ◌+◌, ◌<◌, ◌≤◌}
use native.Mathlib.Omega.{arith}
use lib.Dec.{leb}
use lib.IntN.{ℤ, pos, negsuc, neg_ℤ}
use lib.Signed.{le_z}
use lib.ListN.{length, take, drop, length-append, length-drop, take-append-drop}
use borrow.Author.Tests.{leb-true}
use Rattle.std.specs.Prelude.{Ok}
use Rattle.logic.specs.Lists.{Every}
use Rattle.logic.specs.Tests.{pick}
use Rattle.logic.proofs.Decide.{clash}
use Rattle.book.specs.declared.Shape.{Shape}
use Rattle.book.specs.declared.Content.{Content}
use Rattle.book.specs.declared.Content.TheVariants.{Edition, Statements, Literal, Exception, Total}
use Rattle.book.specs.Kinds.{kinds, kind, numbers_of, bytes, first, last, most, longest, row_once, most_rows, range_of}
use Rattle.book.specs.Counts.{counts_of, total, text_bytes, InLimits}
use Rattle.book.proofs.Counts.{sum-all}
use Rattle.text.specs.Lines.{between, inside, line_of, unlines}
use Rattle.text.specs.Lines.Numbers.{numbers}
use Rattle.text.specs.Lines.Line.{line}
use Rattle.text.specs.Reading.{row_of}
use Rattle.text.specs.Reading.Outcome.{accepted}
use Rattle.text.specs.Tables.{Row, layout, cut, rows_of, test_fields, row_fault, test_row, test_rows}
use Rattle.text.specs.Writing.{first_row, last_row, book_rows, row_lines, text_of}
use Rattle.logic.proofs.Tests.{both_left, both_right}
use Rattle.text.specs.Fields.{Short}
use Rattle.text.proofs.KindFacts.{numbers-wide, numbers-fields}
use Rattle.text.proofs.Lines.{judged-line, fields-tested, first-numbers, fields-length}
use Rattle.text.proofs.Texts.{Writable, went}
use Rattle.text.proofs.Layouts.{Rising, sum_by, widths, sum-append, all-sum}
use Rattle.text.proofs.Rows.{row-nums}
use Rattle.text.proofs.Books.{Sized, in-first}

-- ---- numbers in range have four columns
low-short : (a : ℕ) (v : ℤ) (b : ℕ) → a < 1000 → b < 10000 → between (neg_ℤ (pos a)) (pos b) v ≡ true → Short v
unfolding between Short
low-short a (pos m) b h g e = omega (arith, leb-true m b (both_right (le_z (neg_ℤ (pos a)) (pos m)) (leb m b) e))
low-short zero (negsuc m) b h g e = absurd (clash (both_left (le_z (pos 0) (negsuc m)) _ e))
low-short (suc a) (negsuc m) b h g e = omega (arith, leb-true m a (both_left (leb m a) _ e))

high-short : (a : ℕ) (v : ℤ) (b : ℕ) → b < 10000 → between (pos a) (pos b) v ≡ true → Short v
unfolding between Short
high-short a (pos m) b g e = omega (arith, leb-true m b (both_right (leb a m) (leb m b) e))
high-short a (negsuc m) b g e = absurd (clash (both_left (le_z (pos a) (negsuc m)) _ e))

pub content-short : (c : Content) (n : ℕ) (v : ℤ) → n < 1000 → inside (range_of c n) v ≡ true → Short v
unfolding inside range_of most_rows most kinds row_once pick
content-short Edition n v h e = high-short 1 v _ (omega arith) e
content-short Statements n v h e = high-short 1 v _ (omega arith) e
content-short Literal n v h e = low-short n v n h (omega arith) e
content-short Exception n v h e = high-short 1 v _ (omega arith) e
content-short Total n v h e = high-short 0 v _ (omega arith) e

all_short : (cs : List Content) (n : ℕ) (vs us : List ℤ) → n < 1000 → test_fields cs n vs ≡ numbers us → Every Short vs
unfolding test_fields
all_short [] n [] us h e = tt
all_short [] n (v ∷ vs) us h e = absurd (let z : ◌≡◌ {A = ℕ} 0 1 = cc in omega arith)
all_short (c ∷ cs) n [] us h e = tt
all_short (c ∷ cs) n (v ∷ vs) us h e =
    let g = first-numbers (Ok v) (range_of c n) (test_fields cs n vs) us e in
    (content-short c n v h (in-first (range_of c n) v (test_fields cs n vs) us e), all_short cs n vs g.1 h g.3)

pub small_n : (n : ℕ) → Sized n → n < 1000
unfolding inside between range_of
small_n n e = omega (arith, leb-true n _ (both_right (leb 1 n) _ e))

-- ---- the rows of an accepted table
-- What a row that passed is.
pub record Row-passed (s : Shape) (k : ℕ) (us : List ℤ) (j : ℕ) (vs : List ℤ) : Type 0 where
  pub kind-is : k ≡ j
  pub nums-are : vs ≡ us
  pub wide : length us ≡ length (numbers_of (kind k))
  pub right : row_fault s.exceptions (kind k) us ≡ 0
  pub fields-pass : test_fields (numbers_of (kind k)) s.statements us ≡ numbers us

pub tested-row : (s : Shape) (k : ℕ) (us : List ℤ) (j : ℕ) (vs : List ℤ) → test_row s (record { place = k; nums = us }) ≡ line j vs → Row-passed s k us j vs
unfolding test_row
tested-row s k us j vs e =
    let x = judged-line (row_fault s.exceptions (kind k)) k (test_fields (numbers_of (kind k)) s.statements us) j vs e in
    let y = fields-tested (numbers_of (kind k)) s.statements us vs x.0 in
    record { kind-is = x.1; nums-are = y.0; wide = y.1; right = rw y.0 at x.2; fields-pass = rw y.0 at x.0 }

-- The rest of rows that were accepted.
pub record Rest (s : Shape) (k : ℕ) (ks : List ℕ) (ws : List ℤ) (at : ℕ) (s' : Shape) (ws' : List ℤ) : Type 0 where
  pub us : List ℤ
  pub passed : Row-passed s k (take (kind k).numbers ws) k (take (kind k).numbers ws)
  pub then : test_rows s (cut ks (drop (kind k).numbers ws)) (suc at) ≡ accepted s' us
  pub all : ws' ≡ row_of k (take (kind k).numbers ws) ++ us

join-rest : (s : Shape) (k : ℕ) (vs us ws' : List ℤ) (j : ℕ) (ts : List ℤ) → Row-passed s k vs j ts → ws' ≡ row_of j ts ++ us → Row-passed s k vs k vs × (ws' ≡ row_of k vs ++ us)
join-rest s k vs us ws' j ts p e =
    (record { kind-is = refl; nums-are = refl; wide = p.wide; right = p.right; fields-pass = p.fields-pass }, e ∙ rw (p.nums-are, ← p.kind-is))

pub next_row : (s : Shape) (k : ℕ) (ks : List ℕ) (ws : List ℤ) (at : ℕ) (s' : Shape) (ws' : List ℤ) → test_rows s (cut (k ∷ ks) ws) at ≡ accepted s' ws' → Rest s k ks ws at s' ws'
unfolding test_rows cut
next_row s k ks ws at s' ws' e =
    let w = went (test_row s (record { place = k; nums = take (kind k).numbers ws })) at (λ j vs. test_rows s (cut ks (drop (kind k).numbers ws)) (suc at)) s' ws' e in
    let q = join-rest s k (take (kind k).numbers ws) w.us ws' w.k w.vs (tested-row s k (take (kind k).numbers ws) w.k w.vs w.is) w.all in
    record { us = w.us; passed = q.0; then = w.then; all = q.1 }

pub rows-tested : (ks : List ℕ) (s : Shape) (ws : List ℤ) (at m : ℕ) (s' : Shape) (ws' : List ℤ) → first < m → Rising m last ks → length ws ≡ widths ks → test_rows s (cut ks ws) at ≡ accepted s' ws' → (s' ≡ s) × (ws' ≡ ws)
unfolding test_rows cut sum_by
rows-tested [] s [] at m s' ws' b r l e = (cc, cc)
rows-tested [] s (w ∷ ws) at m s' ws' b r l e = absurd (omega arith)
rows-tested (k ∷ ks) s ws at m s' ws' b r l e =
    let n = next_row s k ks ws at s' ws' e in
    let ih = rows-tested ks s (drop (kind k).numbers ws) (suc at) k s' n.us (omega (arith, r.0)) r.2 (length-drop (kind k).numbers ws ∙ omega arith) n.then in
    (ih.0, join-nums k (kind k).numbers ws ws' n.us (omega (arith, r.0)) r.1 ih.1 n.all)
  where
    join-nums : (k f : ℕ) (ws ws' us : List ℤ) → first < k → k < last → us ≡ drop f ws → ws' ≡ row_of k (take f ws) ++ us → ws' ≡ ws
    join-nums k f ws ws' us h g d a = a ∙ rw (row-nums k (take f ws) h g, d) (take-append-drop f ws)

pub rows-writable : (ks : List ℕ) (s : Shape) (ws : List ℤ) (at m : ℕ) (s' : Shape) (ws' : List ℤ) → first < m → Rising m last ks → s.statements < 1000 → test_rows s (cut ks ws) at ≡ accepted s' ws' → Every Writable (cut ks ws)
unfolding cut
rows-writable [] s ws at m s' ws' b r h e = tt
rows-writable (k ∷ ks) s ws at m s' ws' b r h e =
    let n = next_row s k ks ws at s' ws' e in (
      record {
        known = omega (arith, r.1);
        short = all_short (numbers_of (kind k)) s.statements (take (kind k).numbers ws) (take (kind k).numbers ws) h n.passed.fields-pass;
        wide = n.passed.wide ∙ (numbers-wide k (omega (arith, r.0)) r.1 ∙ numbers-fields k (omega (arith, r.0)) r.1);
      },
      rows-writable ks s (drop (kind k).numbers ws) (suc at) k s' n.us (omega (arith, r.0)) r.2 h n.then,
    )

-- ---- how long the text is
unfoldable pub places : List Row → List ℕ
places [] = []
places (r ∷ rs) = r.place ∷ places rs

line-bytes : (k : ℕ) (vs : List ℤ) (bs : List ℕ) → length vs ≡ (kind k).fields → length (line_of k vs ++ (10 ∷ bs)) ≡ bytes (kind k) + length bs
unfolding line_of bytes
line-bytes k vs bs e = simp length-append (omega (arith, fields-length vs, e))

pub text-bytes : (rs : List Row) → Every Writable rs → length (unlines (row_lines rs)) ≡ sum_by bytes (places rs)
unfolding row_lines unlines sum_by places
text-bytes [] w = refl
text-bytes (r ∷ rs) w = line-bytes r.place r.nums (unlines (row_lines rs)) w.0.wide ∙ ap (λ (m : ℕ). bytes (kind r.place) + m) (text-bytes rs w.1)

places-cut : (ks : List ℕ) (ws : List ℤ) (rs : List Row) → places (cut ks ws ++ rs) ≡ ks ++ places rs
unfolding places cut
places-cut [] ws rs = refl
places-cut (k ∷ ks) ws rs = rw (places-cut ks (drop (kind k).numbers ws) rs)

places-first : (n : ℕ) (rs : List Row) → places (first_row n ∷ rs) ≡ first ∷ places rs
unfolding places first_row
places-first n rs = refl

places-last : (m : ℕ) → places (last_row m ∷ []) ≡ last ∷ []
unfolding places last_row
places-last m = refl

places-book : (s : Shape) (ws : List ℤ) → places (book_rows s ws) ≡ first ∷ (layout 1 (counts_of s) ++ (last ∷ []))
unfolding book_rows rows_of first_row
places-book s ws = rw (places-first s.statements (cut (layout 1 (counts_of s)) ws ++ (last_row (total s) ∷ [])), places-cut (layout 1 (counts_of s)) ws (last_row (total s) ∷ []), places-last (total s))

all-bytes : (ks : List ℕ) → sum_by bytes (first ∷ (ks ++ (last ∷ []))) ≡ bytes (kind first) + sum_by bytes ks + bytes (kind last)
unfolding sum_by
all-bytes ks = rw (sum-append bytes ks (last ∷ [])) (omega arith)

-- The bytes of a book of this shape.
pub book-bytes : (s : Shape) (ws : List ℤ) → Every Writable (book_rows s ws) → length (text_of s ws) ≡ text_bytes s
unfolding text_of
book-bytes s ws w = text-bytes (book_rows s ws) w ∙ (rw (places-book s ws) (all-bytes (layout 1 (counts_of s)) ∙ all-sum bytes s))

pub text-fits : (s : Shape) (ws : List ℤ) → InLimits s → Every Writable (book_rows s ws) → length (text_of s ws) ≤ longest
unfolding longest
text-fits s ws l w = omega (arith, book-bytes s ws w, sum-all bytes s l)
