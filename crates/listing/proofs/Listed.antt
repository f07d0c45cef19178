-- What the buffers hold is what is listed.
use Prim.Native.Nat.{ℕ, suc, ◌+◌, ◌-◌, ◌*◌, ◌/◌, ◌<◌, ◌≤◌}
use mathlib.Core.Path.{◌≡◌, refl, sym, ap, ◌∙◌}
use mathlib.Core.List.{List, ◌++◌}
use native.Mathlib.Nat.{le_trans, mul-le-mul_right, mul-le-mul_left}
use native.Mathlib.Omega.{arith}
use lib.IntN.{ℤ}
use lib.ListN.{length, take, length-append}
use lib.Seq.{sets, take_all, take-take, length-take-le}
use Rattle.logic.proofs.Stores.{put_on}
use Rattle.sets.specs.declared.Pair.{Pair}
use Rattle.book.specs.declared.Shape.{Shape}
use Rattle.book.specs.Limits as limit
use Rattle.text.specs.Reading.{over}
use Rattle.text.specs.ALines.{line_fields}
use Rattle.meaning.specs.Books.{Book}
use Rattle.meaning.specs.Meant.{book_of}
use Rattle.meaning.specs.Order.{Point, at, LawfulPoint}
use Rattle.meaning.specs.Twins.Next.{page_from}
use Rattle.meaning.proofs.Meant.{exceptions-count}
use Rattle.answers.specs.Operations.{fields_in}
use Rattle.answers.specs.Ways.{lines_of, closing_line, most_lines, listed, printed}
use Rattle.line.specs.Parts.{line_bytes}
use Rattle.engine.specs.Loaded.{Loaded, PageIs}
use Rattle.page.specs.Pages.{pairs_in}
use Rattle.page.proofs.Pages.{pairs-front}
use Rattle.listing.specs.Parts.{longest_line, closing_bytes}
use Rattle.listing.proofs.Pages.{last_point, page-full, page-same, page-take, page-length}
use Rattle.listing.proofs.Stores.{closing-length, lines_are, lines-length}
use Rattle.listing.proofs.Printed.{printed-past, printed_ended, printed-cut, front-is}

-- ---- what is listed, by pages
module _ (b : Book) (k m : ℕ) (from : Point) where
  pub front-listed : (p : Pair) → length (page_from b k from) ≡ k → last_point from (page_from b k from) ≡ at p → k ≤ m → m ≤ most_lines
      → lines_of (fields_in b) b.statements (page_from b k from) ++ listed b (m - k) (at p) ≡ listed b m from
  unfolding listed
  front-listed p e l h g =
      let a : suc m ≡ k + suc (m - k) = omega arith in
      let c : m ≡ k + (m - k) = omega arith in
      let d : most_lines - m + k ≡ most_lines - (m - k) = omega arith in
      sym (ap (λ j. printed (most_lines - m) m (fields_in b) b.statements (page_from b j from)) a
      ∙ ap (λ (ps : List Pair). printed (most_lines - m) m (fields_in b) b.statements ps) (page-full b (suc (m - k)) k from e)
      ∙ ap (λ j. printed (most_lines - m) j (fields_in b) b.statements (page_from b k from ++ page_from b (suc (m - k)) (last_point from (page_from b k from)))) c
      ∙ printed-past (most_lines - m) k (m - k) (fields_in b) b.statements (page_from b k from) (page_from b (suc (m - k)) (last_point from (page_from b k from))) e
      ∙ ap (λ j. lines_of (fields_in b) b.statements (page_from b k from) ++ printed j (m - k) (fields_in b) b.statements (page_from b (suc (m - k)) (last_point from (page_from b k from)))) d
      ∙ ap (λ x. lines_of (fields_in b) b.statements (page_from b k from) ++ printed (most_lines - (m - k)) (m - k) (fields_in b) b.statements (page_from b (suc (m - k)) x)) l)

  pub ended-listed : length (page_from b k from) < k → length (page_from b k from) ≤ m
      → lines_of (fields_in b) b.statements (page_from b k from) ++ closing_line 69 (most_lines - m + length (page_from b k from)) ≡ listed b m from
  unfolding listed
  ended-listed h g = rw (page-same b k (suc m) from h (omega arith)) (sym (printed_ended (most_lines - m) m (fields_in b) b.statements (page_from b k from) g))

  pub cut-listed : m < length (page_from b k from) → lines_of (fields_in b) b.statements (take m (page_from b k from)) ++ closing_line 77 (most_lines - m + m) ≡ listed b m from
  unfolding listed
  cut-listed h =
      let g = page-length b k from in
      let t : page_from b (suc m) from ≡ take (suc m) (page_from b k from) = page-take b (suc m) k from (omega arith) in
      let n : length (take (suc m) (page_from b k from)) ≡ suc m = length-take-le (suc m) (page_from b k from) h in
      rw t (ap (λ (ps : List Pair). lines_of (fields_in b) b.statements ps ++ closing_line 77 (most_lines - m + m)) (sym (take-take m (suc m) (page_from b k from) (omega arith)))
      ∙ sym (printed-cut (most_lines - m) m (fields_in b) b.statements (take (suc m) (page_from b k from)) (omega (arith, n))))

-- ---- buffers
pub at_most : (k m w n : ℕ) → k ≤ m → w ≤ limit.exceptions → n ≤ limit.statements → k * line_bytes w n ≤ m * longest_line
at_most k m w n h u g = le_trans (mul-le-mul_right (line_bytes w n) h) (mul-le-mul_left m (let f : line_bytes w n ≤ longest_line = omega arith in f))

shown : (l l₁ xs : List ℕ) (i : ℕ) → l₁ ≡ sets l 0 xs → i ≡ length xs → length xs ≤ length l → take i l₁ ≡ xs
shown l l₁ xs i e f h = rw (e, f) (front-is l xs h)

shown-both : (l l₁ l₂ xs ys : List ℕ) (i : ℕ) → l₁ ≡ sets l 0 xs → i ≡ length xs → l₂ ≡ sets l₁ i ys → length xs + length ys ≤ length l → take (i + length ys) l₂ ≡ xs ++ ys
shown-both l l₁ l₂ xs ys i e f g h =
    let n : length (xs ++ ys) ≡ length xs + length ys = length-append xs ys in
    let s = put_on l l₁ xs ys (sets l 0 (xs ++ ys)) 0 i refl e (omega arith) in
    shown l l₂ (xs ++ ys) (i + length ys) (g ∙ s) (omega (arith, f, n)) (rw n h)

-- The lines of k pairs of a page, and a closing line after them.
module _ (w n : ℕ) (ns : List ℕ) (k : ℕ) (out out₁ : List ℕ) (i : ℕ) (e : out₁ ≡ sets out 0 (lines_of w n (pairs_in ns 0 k))) (ei : i ≡ k * line_bytes w n) where
  place_is : i ≡ length (lines_of w n (pairs_in ns 0 k))
  place_is = omega (arith, ap length (lines_are w n ns k 0), lines-length w n ns k)

  pub lines-shown : i ≤ length out → take i out₁ ≡ lines_of w n (pairs_in ns 0 k)
  lines-shown h = shown out out₁ (lines_of w n (pairs_in ns 0 k)) i e place_is (rw place_is at h)

  pub closed-shown : (x c : ℕ) (out₂ : List ℕ) → out₂ ≡ sets out₁ i (closing_line x c) → i + closing_bytes ≤ length out → take (i + closing_bytes) out₂ ≡ lines_of w n (pairs_in ns 0 k) ++ closing_line x c
  closed-shown x c out₂ g h = rw (closing-length x c) at (shown-both out out₁ out₂ (lines_of w n (pairs_in ns 0 k)) (closing_line x c) i e place_is g (let p = place_is in omega (arith, closing-length x c)))

-- ---- a page in a slice
module _ (s : Shape) (rows : List ℤ) where
  pub statements-same : (book_of s rows).statements ≡ s.statements
  unfolding book_of
  statements-same = refl

  pub fields-same : fields_in (book_of s rows) ≡ line_fields s.exceptions
  fields-same = ap line_fields (exceptions-count s rows)

module _ (s : Shape) (ws ranks : List ℕ) (from : Point) (room : ℕ) (o o' : List ℕ) (k : ℕ) (eo : length o / 3 ≡ room) (f : PageIs s ws ranks from o o' k) (rows : List ℤ) (d : Loaded s rows ws ranks) (l : LawfulPoint (book_of s rows) from) where
  pub page-count : k ≡ length (page_from (book_of s rows) room from)
  page-count = rw eo at (f.count rows d l)

  pub page-few : k ≤ room
  page-few = rw page-count (page-length (book_of s rows) room from)

  pub page-pairs : (j : ℕ) → j ≤ k → pairs_in o' 0 j ≡ take j (page_from (book_of s rows) room from)
  unfolding over
  page-pairs j h = rw (rw eo at (f.filled rows d l)) (pairs-front j (page_from (book_of s rows) room from) _ (rw page-count at h))

  pub page-all : pairs_in o' 0 k ≡ page_from (book_of s rows) room from
  page-all = page-pairs k (omega arith) ∙ take_all k (page_from (book_of s rows) room from) (let e = page-count in omega arith)
