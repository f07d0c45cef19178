-- What the stores of the functions leave in a buffer.
use Prim.Native.Nat.{ℕ, zero, suc, ◌+◌, ◌*◌, ◌<◌, ◌≤◌}
use mathlib.Core.Path.{◌≡◌, refl, ap}
use mathlib.Core.Bool.{false}
use mathlib.Core.List.{List, [], ◌∷◌, ◌++◌}
use native.Mathlib.Omega.{arith}
use borrow.Author.Tests.{lt-leb}
use lib.Dec.{leb}
use borrow.Rule.Slice.PartMut.{put_mid}
use lib.ListN.{length, take, drop, set, replicate, length-take, length-drop, length-set}
use Rattle.answers.proofs.Copies.{part-put}
use lib.Seq.{sets}
use Rattle.logic.specs.Tests.{both, either, pick, concat_map}
use Rattle.logic.proofs.Stores.{pieces, pieces-length, Putting, putting-room, putting-end}
use Rattle.text.specs.Fields.{column_of, written, written_all, columns, in_columns}
use Rattle.text.specs.ALines.{a_line}
use Rattle.answers.specs.Ways.{most_lines, lines_of, count_columns, closing_line, failed}
use Rattle.line.specs.Parts.{line_bytes}
use Rattle.line.proofs.PutLaws.{line-length}
use Rattle.page.specs.Pages.{pair_at, pairs_in}
use Rattle.listing.specs.Parts.{closing_bytes}

-- ---- the closing line
pub closing-length : (x k : ℕ) → length (closing_line x k) ≡ closing_bytes
unfolding closing_line in_columns
closing-length x k = refl

-- A count of at most four digits has spaces in the columns before them.
count-short : (k : ℕ) → k ≤ most_lines → in_columns count_columns false k ≡ 32 ∷ 32 ∷ 32 ∷ 32 ∷ columns false k
unfolding columns in_columns column_of either both pick
count-short k h = rw (over 10000000 (omega arith), over 1000000 (omega arith), over 100000 (omega arith), over 10000 (omega arith)) refl
  where
    over : (s : ℕ) → most_lines < s → leb s k ≡ false
    over s g = lt-leb s k (omega arith)

closing-is : (x k : ℕ) → k ≤ most_lines → closing_line x k ≡ x ∷ 32 ∷ 32 ∷ 32 ∷ 32 ∷ (columns false k ++ (10 ∷ []))
unfolding closing_line
closing-is x k h = ap (λ (l : List ℕ). x ∷ (l ++ (10 ∷ []))) (count-short k h)

pub closed : (l m₁ xs : List ℕ) (x k : ℕ) → k ≤ most_lines → closing_bytes ≤ length l → xs ≡ replicate (length (take 4 (drop 1 (set l 0 x)))) 32
    → m₁ ≡ sets (put_mid 1 4 (set l 0 x) xs) 5 (columns false k) → set m₁ 9 10 ≡ sets l 0 (closing_line x k)
unfolding columns in_columns
closed l m₁ xs x k h r d e =
    let c : length (take 4 (drop 1 (set l 0 x))) ≡ 4 = omega (arith, length-take 4 (drop 1 (set l 0 x)), length-drop 1 (set l 0 x), length-set l 0 x) in
    let f : xs ≡ 32 ∷ 32 ∷ 32 ∷ 32 ∷ [] = rw c at d in
    let g : put_mid 1 4 (set l 0 x) xs ≡ sets (set l 0 x) 1 (32 ∷ 32 ∷ 32 ∷ 32 ∷ []) = part-put (set l 0 x) xs (32 ∷ 32 ∷ 32 ∷ 32 ∷ []) 1 5 f refl (omega (arith, length-set l 0 x)) in
    rw (closing-is x k h, e, g) refl

pub failed-put : (l m₁ m₂ : List ℕ) (q k : ℕ) → m₁ ≡ sets (set l 0 70) 1 (columns false q) → m₂ ≡ sets m₁ 5 (columns false k) → set m₂ 9 10 ≡ sets l 0 (failed q k)
unfolding failed written_all written columns in_columns
failed-put l m₁ m₂ q k e f = rw (f, e) refl

-- ---- the lines of a page
module _ (w n : ℕ) (ns : List ℕ) where
  -- The line of pair i.
  abbrev pub line_at : ℕ → List ℕ
  line_at i = a_line w n (pair_at ns i)

  pub lines_are : (k i : ℕ) → lines_of w n (pairs_in ns i k) ≡ pieces line_at i k
  unfolding lines_of concat_map pairs_in pieces
  lines_are zero i = refl
  lines_are (suc k) i = ap (λ (bs : List ℕ). a_line w n (pair_at ns i) ++ bs) (lines_are k (suc i))

  pub lines-length : (k : ℕ) → length (pieces line_at 0 k) ≡ k * line_bytes w n
  lines-length k = pieces-length line_at (line_bytes w n) (λ i. line-length w n (pair_at ns i)) k 0

  pub lines-room : (k : ℕ) (l₀ l : List ℕ) (a i : ℕ) → Putting line_at k l₀ 0 l a i → i < k → k * line_bytes w n ≤ length l₀ → a + line_bytes w n ≤ length l
  lines-room k l₀ l a i g h r = rw (line-length w n (pair_at ns i)) at (putting-room line_at k l₀ 0 l a i g h (omega (arith, lines-length k)))

  pub lines-put : (k : ℕ) (l₀ l : List ℕ) (a i : ℕ) → Putting line_at k l₀ 0 l a i → k ≤ i → (l ≡ sets l₀ 0 (lines_of w n (pairs_in ns 0 k))) × (a ≡ k * line_bytes w n)
  lines-put k l₀ l a i g h = let e = putting-end line_at k l₀ 0 l a i (lines_of w n (pairs_in ns 0 k)) g h (lines_are k 0) in (e.0, omega (arith, e.1, ap length (lines_are k 0), lines-length k))
