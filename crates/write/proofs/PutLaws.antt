-- Lines stored into a lent buffer: a line, the lines of one kind, the rows kind after kind, the whole text.
-- Each loop puts pieces (crate logic, proofs/Stores): a line each, and the lines of a kind each.
use mathlib.Core.Path.{◌≡◌, refl, sym, ap, ◌∙◌}
use mathlib.Core.Bool.{Bool, true, false}
use mathlib.Core.List.{List, [], ◌∷◌, ◌++◌, append_assoc}
use Prim.Native.Nat.{ℕ, zero, suc, ◌+◌, ◌-◌, ◌*◌, ◌<◌, ◌≤◌}
use native.Mathlib.Nat.{suc-mul, zero-mul, add-zero, mul-le-mul_right}
use native.Mathlib.Numerals.{add-one}
use native.Mathlib.Omega.{arith}
use lib.Dec.{ltb}
use lib.IntN.{ℤ, pos}
use lib.ListN.{get_or, drop, take, set, length, replicate, length-drop, length-append, length-take, get_or-eq_default}
use lib.Seq.{sets, drop-drop, get_or-take, get_or-drop, length-take-le}
use mir.Syntax.{w32}
use mir.Val.{to_z}
use mir.Facts.{to_z_pos}
use borrow.Author.Tests.{ltb-true, ltb-false}
use Rattle.logic.specs.Tests.{pick}
use Rattle.logic.proofs.Stores.{sets-append, pieces, Putting}
use Rattle.book.specs.declared.Kind.{Kind}
use Rattle.book.specs.declared.Shape.{Shape}
use Rattle.book.specs.Kinds.{kinds, kind, none, first, last, front, bytes, row_once, most}
use Rattle.book.specs.Counts.{counts_of, all_counts, count_at, sum_to, start_of, row_numbers, text_bytes, total, InLimits}
use Rattle.book.proofs.Counts.{sum-next, sum-all}
use Rattle.text.specs.Fields.{written_all, Short}
use Rattle.text.specs.Lines.{line_of, unlines}
use Rattle.text.specs.Tables.{Row, cut, rows_of}
use Rattle.text.specs.Writing.{first_row, last_row, book_rows, row_lines, text_of}
use Rattle.text.proofs.KindFacts.{numbers-fields}
use Rattle.text.proofs.Lines.{fields-length}
use Rattle.fields.specs.Short.{all_short}
use Rattle.write.specs.Parts.{lines_at, rows_text}
use Rattle.write.proofs.TableLaws.{to_come, come-more, come-none, rows_in, start-on, start_first}

-- ---- numbers that four columns hold
short-zero : Short (pos 0)
unfolding Short
short-zero = omega arith

pub short-part : (t : List ℤ) (from w : ℕ) → all_short t → all_short (take w (drop from t))
unfolding all_short
short-part t from w h i = go (ltb i w) refl
  where
    go : (b : Bool) → ltb i w ≡ b → Short (get_or (take w (drop from t)) i (pos 0))
    go true e = rw (get_or-take w (drop from t) i (pos 0) (ltb-true i w e), get_or-drop from t i (pos 0)) (h (from + i))
    go false e = rw (get_or-eq_default (take w (drop from t)) (pos 0) {n = i} (rw (length-take w (drop from t)) (omega (arith, ltb-false i w e)))) short-zero

-- ---- a line
sets_last : (l a : List ℕ) (at x : ℕ) → sets l at (a ++ (x ∷ [])) ≡ set (sets l at a) (at + length a) x
sets_last l a at x = sets-append a (x ∷ []) l at

put_whole : (l m : List ℕ) (vs : List ℤ) (at k x w : ℕ) → x ≡ (kind k).letter → w ≡ length vs → m ≡ sets (set l at x) (at + 1) (written_all vs) → set m (at + 1 + w * 4) 10 ≡ sets l at (line_of k vs ++ (10 ∷ []))
unfolding line_of
put_whole l m vs at k x w ex ew em =
    let a : at + 1 ≡ suc at = omega arith in
    let b : at + 1 + w * 4 ≡ suc at + length (written_all vs) = omega (arith, fields-length vs, ew) in
    rw (b, em, a, ex) (sym (sets_last (set l at (kind k).letter) (written_all vs) (suc at) 10))

part-long : (t : List ℤ) (from n : ℕ) → from + n ≤ length t → length (take n (drop from t)) ≡ n
part-long t from n h = length-take-le n (drop from t) (rw (length-drop from t) (omega arith))

pub put-line-is : (l m : List ℕ) (t : List ℤ) (at k from : ℕ) (x : Kind) → x ≡ kind k → from + (kind k).fields ≤ length t → m ≡ sets (set l at x.letter) (at + 1) (written_all (take x.fields (drop from t)))
    → set m (at + 1 + x.fields * 4) 10 ≡ sets l at (line_of k (take (kind k).fields (drop from t)) ++ (10 ∷ []))
put-line-is l m t at k from x ex h em =
    put_whole l m (take (kind k).fields (drop from t)) at k x.letter x.fields (ap (λ (y : Kind). y.letter) ex) (ap (λ (y : Kind). y.fields) ex ∙ sym (part-long t from (kind k).fields h))
    (em ∙ ap (λ (y : Kind). sets (set l at x.letter) (at + 1) (written_all (take y.fields (drop from t)))) ex)

pub line-in : (x : Kind) (k : ℕ) → x ≡ kind k → (at l : ℕ) → at + bytes (kind k) ≤ l → at + 1 + x.fields * 4 < l
unfolding bytes
line-in x k e at l h = rw e (omega arith)

pub fields_in : (x : Kind) (k : ℕ) → x ≡ kind k → (from l : ℕ) → from + (kind k).fields ≤ l → from + x.fields ≤ l
fields_in x k e from l h = rw e h

-- ---- lines one after the other
unlines-append : (ls ms : List (List ℕ)) → unlines (ls ++ ms) ≡ unlines ls ++ unlines ms
unfolding unlines
unlines-append [] ms = refl
unlines-append (l ∷ ls) ms = rw (unlines-append ls ms) (sym (append_assoc l (10 ∷ unlines ls) (unlines ms)))

lines-append : (rs qs : List Row) → row_lines (rs ++ qs) ≡ row_lines rs ++ row_lines qs
unfolding row_lines
lines-append [] qs = refl
lines-append (r ∷ rs) qs = rw (lines-append rs qs)

first-line : (k : ℕ) (ks : List ℕ) (ws : List ℤ) → unlines (row_lines (cut (k ∷ ks) ws)) ≡ (line_of k (take (kind k).numbers ws) ++ (10 ∷ [])) ++ unlines (row_lines (cut ks (drop (kind k).numbers ws)))
unfolding cut row_lines unlines
first-line k ks ws = sym (append_assoc (line_of k (take (kind k).numbers ws)) (10 ∷ []) (unlines (row_lines (cut ks (drop (kind k).numbers ws)))))

line-long : (k : ℕ) (vs : List ℤ) → length vs ≡ (kind k).fields → length (line_of k vs ++ (10 ∷ [])) ≡ bytes (kind k)
unfolding line_of bytes
line-long k vs e = simp length-append (omega (arith, fields-length vs, e))

-- ---- the lines of one kind, each a piece
-- Line i of the rows of the kind at place k, their numbers from a place of the table on.
abbrev pub line_at : ℕ → List ℤ → ℕ → ℕ → List ℕ
line_at k t from i = line_of k (take (kind k).numbers (drop (from + i * (kind k).numbers) t)) ++ (10 ∷ [])

no_lines : (k : ℕ) (ws : List ℤ) → unlines (row_lines (cut (replicate 0 k) ws)) ≡ []
unfolding cut row_lines unlines
no_lines k ws = refl

lines_from : (k : ℕ) (t : List ℤ) (from i c : ℕ) → unlines (row_lines (cut (replicate c k) (drop (from + i * (kind k).numbers) t))) ≡ pieces (line_at k t from) i c
unfolding pieces
lines_from k t from i zero = no_lines k (drop (from + i * (kind k).numbers) t)
lines_from k t from i (suc c) =
    let e : from + i * (kind k).numbers + (kind k).numbers ≡ from + suc i * (kind k).numbers = omega (arith, suc-mul i (kind k).numbers) in
    first-line k (replicate c k) (drop (from + i * (kind k).numbers) t) ∙ ap (λ (l : List ℕ). line_at k t from i ++ l) (rw (drop-drop (kind k).numbers (from + i * (kind k).numbers) t, e) (lines_from k t from (suc i) c))

pub lines_are : (k : ℕ) (t : List ℤ) (from c : ℕ) → lines_at k t from c ≡ pieces (line_at k t from) 0 c
unfolding lines_at
lines_are k t from c = let e : from + 0 * (kind k).numbers ≡ from = omega arith in rw e at (lines_from k t from 0 c)

module _ (k : ℕ) (low : first < k) (high : k < last) (t : List ℤ) (from c : ℕ) (h : from + c * (kind k).numbers ≤ length t) where
  pub line-in-table : (i : ℕ) → i < c → from + i * (kind k).numbers + (kind k).fields ≤ length t
  line-in-table i l = omega (arith, numbers-fields k low high, suc-mul i (kind k).numbers, mul-le-mul_right (kind k).numbers l)

  piece-long : (i : ℕ) → i < c → length (line_at k t from i) ≡ bytes (kind k)
  piece-long i l =
      let e = numbers-fields k low high in
      line-long k _ (part-long t (from + i * (kind k).numbers) (kind k).numbers (omega (arith, line-in-table i l, e)) ∙ e)

  -- A line put is its piece.
  pub line-piece : (i : ℕ) (l m : List ℕ) (a f : ℕ) → f ≡ from + i * (kind k).numbers → m ≡ sets l a (line_of k (take (kind k).fields (drop f t)) ++ (10 ∷ [])) → m ≡ sets l a (line_at k t from i)
  line-piece i l m a f ef em = em ∙ rw (ef, numbers-fields k low high)

  pieces-long : (n i : ℕ) → i + n ≤ c → length (pieces (line_at k t from) i n) ≡ n * bytes (kind k)
  unfolding pieces
  pieces-long zero i l = sym (zero-mul (bytes (kind k)))
  pieces-long (suc n) i l = length-append (line_at k t from i) (pieces (line_at k t from) (suc i) n) ∙ omega (arith, piece-long i (omega arith), pieces-long n (suc i) (omega arith), suc-mul n (bytes (kind k)))

  pub all-long : length (pieces (line_at k t from) 0 c) ≡ c * bytes (kind k)
  all-long = pieces-long c 0 (omega arith)

  pub kind-long : length (lines_at k t from c) ≡ c * bytes (kind k)
  kind-long = ap length (lines_are k t from c) ∙ all-long

  -- Where the next line goes, and where the numbers of the line after it begin.
  pub next-line : (i a b : ℕ) → i < c → b ≡ bytes (kind k) → a + b ≡ a + length (line_at k t from i)
  next-line i a b l e = omega (arith, e, piece-long i l)

  pub line-room : (i a m : ℕ) → i < c → a + length (line_at k t from i) ≤ m → a + bytes (kind k) ≤ m
  line-room i a m l h = omega (arith, piece-long i l)

pub next-numbers : (k from i f w : ℕ) → f ≡ from + i * (kind k).numbers → w ≡ (kind k).numbers → f + w ≡ from + (i + 1) * (kind k).numbers
next-numbers k from i f w e ew = omega (arith, e, ew, suc-mul i (kind k).numbers, add-one i, ap (λ (j : ℕ). j * (kind k).numbers) (add-one i))

-- ---- the rows, the lines of each kind a piece
cut-append : (c k : ℕ) (ks : List ℕ) (ws : List ℤ) → cut (replicate c k ++ ks) ws ≡ cut (replicate c k) ws ++ cut ks (drop (c * (kind k).numbers) ws)
unfolding cut
cut-append zero k ks ws = rw (zero-mul (kind k).numbers)
cut-append (suc c) k ks ws =
    let e : (kind k).numbers + c * (kind k).numbers ≡ suc c * (kind k).numbers = omega (arith, suc-mul c (kind k).numbers) in
    rw (cut-append c k ks (drop (kind k).numbers ws), drop-drop (c * (kind k).numbers) (kind k).numbers ws, e)

block-append : (c k : ℕ) (ks : List ℕ) (t : List ℤ) (from : ℕ) → unlines (row_lines (cut (replicate c k ++ ks) (drop from t))) ≡ lines_at k t from c ++ unlines (row_lines (cut ks (drop (from + c * (kind k).numbers) t)))
unfolding lines_at
block-append c k ks t from =
    rw (
      cut-append c k ks (drop from t),
      drop-drop (c * (kind k).numbers) from t,
      lines-append (cut (replicate c k) (drop from t)) (cut ks (drop (from + c * (kind k).numbers) t)),
      unlines-append (row_lines (cut (replicate c k) (drop from t))) (row_lines (cut ks (drop (from + c * (kind k).numbers) t))),
    )

-- The lines of the kind of row at place j + 1.
abbrev pub block_at : Shape → List ℤ → ℕ → List ℕ
block_at s t j = lines_at (j + 1) t (front + start_of s (j + 1)) (count_at s (j + 1))

nothing : (ws : List ℤ) → unlines (row_lines (cut [] ws)) ≡ []
unfolding cut row_lines unlines
nothing ws = refl

come-blocks : (s : Shape) (t : List ℤ) (n j : ℕ) → j + 1 + n ≡ last → unlines (row_lines (cut (to_come s (j + 1)) (drop (front + start_of s (j + 1)) t))) ≡ pieces (block_at s t) j n
unfolding pieces
come-blocks s t zero j e = ap (λ (ks : List ℕ). unlines (row_lines (cut ks (drop (front + start_of s (j + 1)) t)))) (come-none s (j + 1) (omega arith)) ∙ nothing _
come-blocks s t (suc n) j e =
    let p = start-on s (j + 1) (front + start_of s (j + 1)) (count_at s (j + 1)) (kind (j + 1)).numbers refl refl refl in
    let q : suc j + 1 ≡ j + 1 + 1 = omega arith in
    ap (λ (ks : List ℕ). unlines (row_lines (cut ks (drop (front + start_of s (j + 1)) t)))) (come-more s (j + 1) (count_at s (j + 1)) refl (omega arith) (omega arith))
    ∙ (block-append (count_at s (j + 1)) (j + 1) (to_come s (j + 1 + 1)) t (front + start_of s (j + 1))
    ∙ ap (λ (l : List ℕ). block_at s t j ++ l) (rw (p, ← q) (come-blocks s t n (suc j) (omega arith))))

pub rows_are : (s : Shape) (t : List ℤ) → rows_text s t ≡ pieces (block_at s t) 0 (last - 1)
unfolding rows_text rows_of
rows_are s t = let e = start_first s in rw (← e) at (come-blocks s t (last - 1) 0 (omega arith))

module _ (s : Shape) (t : List ℤ) (l : length t ≡ front + row_numbers s) where
  pub block-long : (k : ℕ) → first < k → k < last → length (lines_at k t (front + start_of s k) (count_at s k)) ≡ count_at s k * bytes (kind k)
  block-long k h g = kind-long k h g t (front + start_of s k) (count_at s k) (rows_in t s k (front + start_of s k) (count_at s k) l (omega arith) refl refl)

  blocks-long : (n j : ℕ) → j + 1 + n ≡ last → sum_to bytes s (j + 1) + length (pieces (block_at s t) j n) ≡ sum_to bytes s last
  unfolding pieces
  blocks-long zero j e = let q : j + 1 ≡ last = omega arith in rw q (add-zero (sum_to bytes s last))
  blocks-long (suc n) j e =
      let q : suc j + 1 ≡ j + 1 + 1 = omega arith in
      let b = block-long (j + 1) (omega arith) (omega arith) in
      let m = sum-next bytes s (j + 1) (sum_to bytes s (j + 1)) (count_at s (j + 1)) (bytes (kind (j + 1))) refl refl refl in
      let ih = rw q at (blocks-long n (suc j) (omega arith)) in
      omega (arith, length-append (block_at s t j) (pieces (block_at s t) (suc j) n), b, m, ih)

  -- The bytes of B, of the rows and of Z are all.
  pub rows_long : bytes (kind first) + length (rows_text s t) + bytes (kind last) ≡ text_bytes s
  unfolding sum_to count_at all_counts counts_of
  rows_long = omega (arith, ap length (rows_are s t), blocks-long (last - 1) 0 (omega arith))

  module _ (k : ℕ) (low : first < k) (high : k < last) (a f c : ℕ) (ec : c ≡ count_at s k) (ef : f ≡ front + start_of s k) where
    block-is : block_at s t (k - 1) ≡ lines_at k t f c
    block-is = let e : k - 1 + 1 ≡ k = omega arith in rw (e, ec, ef)

    pub block_room : (m : ℕ) → a + length (block_at s t (k - 1)) ≤ m → a + c * bytes (kind k) ≤ m
    block_room m h = omega (arith, ap length block-is, rw (← ec, ← ef) at (block-long k low high))

    pub block-piece : (x m : List ℕ) → m ≡ sets x a (lines_at k t f c) → m ≡ sets x a (block_at s t (k - 1))
    block-piece x m e = e ∙ ap (sets x a) (sym block-is)

    pub block-next : (b : ℕ) → b ≡ bytes (kind k) → a + c * b ≡ a + length (block_at s t (k - 1))
    block-next b e = let z = rw (← ec, ← ef) at (block-long k low high) in rw (e) (omega (arith, ap length block-is, z))

-- The kind after the one at place k.
pub next_place : (f : ℕ → List ℕ) (n : ℕ) (l₀ : List ℕ) (at : ℕ) (m : List ℕ) (b k : ℕ) → first < k → Putting f n l₀ at m b (k - 1 + 1) → Putting f n l₀ at m b (k + 1 - 1)
next_place f n l₀ at m b k h g = let e : k - 1 + 1 ≡ k + 1 - 1 = omega arith in rw e at g

pub kind-rows : (x : Kind) (k : ℕ) → x ≡ kind k → (t : List ℤ) (s : Shape) (f c : ℕ) → length t ≡ front + row_numbers s → k < none → f ≡ front + start_of s k → c ≡ count_at s k → f + c * x.numbers ≤ length t
kind-rows x k e t s f c l h ef ec = rw e (rows_in t s k f c l h ef ec)

-- ---- the whole text
-- The text of a book in its three parts.
text-lines : (s : Shape) (ws : List ℤ)
    → text_of s ws ≡ (line_of first (pos 1 ∷ pos s.statements ∷ []) ++ (10 ∷ [])) ++ (unlines (row_lines (rows_of s ws)) ++ (line_of last (pos (total s) ∷ []) ++ (10 ∷ [])))
unfolding text_of book_rows first_row last_row row_lines unlines
text-lines s ws =
    rw (lines-append (rows_of s ws) (record { place = last; nums = pos (total s) ∷ [] } ∷ []), unlines-append (row_lines (rows_of s ws)) (row_lines (record { place = last; nums = pos (total s) ∷ [] } ∷ [])))
    (sym (append_assoc (line_of first (pos 1 ∷ pos s.statements ∷ [])) (10 ∷ []) (unlines (row_lines (rows_of s ws)) ++ (line_of last (pos (total s) ∷ []) ++ (10 ∷ [])))))

last-long : (n : ℕ) → length (line_of last (pos n ∷ []) ++ (10 ∷ [])) ≡ bytes (kind last)
unfolding kind kinds
last-long n = line-long last (pos n ∷ []) refl

first-long : (n : ℕ) → length (line_of first (pos 1 ∷ pos n ∷ []) ++ (10 ∷ [])) ≡ bytes (kind first)
unfolding kind kinds
first-long n = line-long first (pos 1 ∷ pos n ∷ []) refl

pub first-fields : 0 + (kind first).fields ≤ 2
unfolding kind kinds
first-fields = omega arith

pub last-fields : 0 + (kind last).fields ≤ 1
unfolding kind kinds
last-fields = omega arith

first_part : (a b : ℤ) → take (kind first).fields (drop 0 (a ∷ b ∷ [])) ≡ a ∷ b ∷ []
unfolding kind kinds
first_part a b = refl

last-part : (a : ℤ) → take (kind last).fields (drop 0 (a ∷ [])) ≡ a ∷ []
unfolding kind kinds
last-part a = refl

pub first_short : (s : Shape) → InLimits s → all_short (pos 1 ∷ to_z w32 s.statements ∷ [])
unfolding all_short Short
first_short s l zero = omega arith
first_short s l (suc zero) = rw (to_z_pos w32 {n = s.statements} (omega (arith, l.statements))) (omega (arith, l.statements))
first_short s l (suc (suc i)) = omega arith

rows_few : (s : Shape) → InLimits s → total s < 10000
unfolding most kinds row_once pick
rows_few s l = omega (arith, sum-all row_once s l)

pub last_fits : (s : Shape) (n : ℕ) → InLimits s → n ≡ total s → n < 2147483648
last_fits s n l e = omega (arith, e, rows_few s l)

pub last-short : (s : Shape) (n : ℕ) → InLimits s → n ≡ total s → all_short (to_z w32 n ∷ [])
unfolding all_short Short
last-short s n l e zero = rw (to_z_pos w32 {n = n} (omega (arith, e, rows_few s l))) (omega (arith, e, rows_few s l))
last-short s n l e (suc i) = omega arith

module _ (l m₁ m₂ m₃ : List ℕ) (s : Shape) (t : List ℤ) (b z n r : ℕ) (u : InLimits s) (h : length t ≡ front + row_numbers s) (eb : b ≡ bytes (kind first)) (ez : z ≡ bytes (kind last)) (en : n ≡ text_bytes s) (er : r ≡ total s)
    (e₁ : m₁ ≡ sets l 0 (line_of first (take (kind first).fields (drop 0 (pos 1 ∷ to_z w32 s.statements ∷ []))) ++ (10 ∷ []))) (e₂ : m₂ ≡ sets m₁ b (rows_text s t))
    (e₃ : m₃ ≡ sets m₂ (n - z) (line_of last (take (kind last).fields (drop 0 (to_z w32 r ∷ []))) ++ (10 ∷ []))) where
  first-is : m₁ ≡ sets l 0 (line_of first (pos 1 ∷ pos s.statements ∷ []) ++ (10 ∷ []))
  first-is = e₁ ∙ rw (first_part (pos 1) (to_z w32 s.statements), to_z_pos w32 {n = s.statements} (omega (arith, u.statements)))

  last-is : m₃ ≡ sets m₂ (n - z) (line_of last (pos (total s) ∷ []) ++ (10 ∷ []))
  last-is = e₃ ∙ rw (last-part (to_z w32 r), er, to_z_pos w32 {n = total s} (omega (arith, rows_few s u)))

  pub text-put : m₃ ≡ sets l 0 (text_of s (drop front t))
  unfolding rows_text
  text-put =
      let p : 0 + length (line_of first (pos 1 ∷ pos s.statements ∷ []) ++ (10 ∷ [])) ≡ b = omega (arith, first-long s.statements, eb) in
      let q : b + length (unlines (row_lines (rows_of s (drop front t)))) ≡ n - z = omega (arith, rows_long s t h, eb, ez, en) in
      last-is
      ∙ sym (rw (
        text-lines s (drop front t),
        sets-append (line_of first (pos 1 ∷ pos s.statements ∷ []) ++ (10 ∷ [])) (unlines (row_lines (rows_of s (drop front t))) ++ (line_of last (pos (total s) ∷ []) ++ (10 ∷ []))) l 0,
        sets-append (unlines (row_lines (rows_of s (drop front t)))) (line_of last (pos (total s) ∷ []) ++ (10 ∷ [])) (sets l 0 (line_of first (pos 1 ∷ pos s.statements ∷ []) ++ (10 ∷ []))) (0 + length (line_of first (pos 1 ∷ pos s.statements ∷ []) ++ (10 ∷ []))),
        p,
        q,
        ← first-is,
        ← e₂,
      ))

-- How long the text of a table of this shape is.
pub text-bytes : (s : Shape) (t : List ℤ) → length t ≡ front + row_numbers s → length (text_of s (drop front t)) ≡ text_bytes s
unfolding rows_text
text-bytes s t h =
    let a = rows_long s t h in
    ap length (text-lines s (drop front t))
    ∙ (length-append (line_of first (pos 1 ∷ pos s.statements ∷ []) ++ (10 ∷ [])) (unlines (row_lines (rows_of s (drop front t))) ++ (line_of last (pos (total s) ∷ []) ++ (10 ∷ [])))
    ∙ (let b = length-append (unlines (row_lines (rows_of s (drop front t)))) (line_of last (pos (total s) ∷ []) ++ (10 ∷ [])) in omega (arith, a, b, first-long s.statements, last-long (total s))))
