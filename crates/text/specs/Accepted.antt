-- What holds of every accepted book: its shape is in the limits, its rows are as long as the shape says, and each row is right.
-- It follows from the definition of reading (crate text, proofs/Facts); those who use the rows need not look at that.
use Rattle.std.specs.Prelude.{ℕ, ◌+◌, ◌*◌, ◌<◌, true, false, List, ◌≡◌, ℤ, pos, length, get_or, take, drop}
use Rattle.book.specs.declared.Shape.{Shape}
use Rattle.book.specs.declared.Content.TheVariants.{Edition}
use Rattle.book.specs.Kinds.{kind, numbers_of, range_of, first, last}
use Rattle.book.specs.Counts.{count_at, start_of, row_numbers, InLimits}
use Rattle.text.specs.Lines.{inside, headless, missing}

-- Row i of the kind at place k: its numbers.
abbrev pub row_at : Shape → List ℤ → ℕ → ℕ → List ℤ
row_at s ws k i = take (kind k).numbers (drop (start_of s k + i * (kind k).numbers) ws)

-- Row i of the kind at place k: each number is in the range of what it holds, and it lacks neither a head nor an exception that it names.
pub record RowRight (s : Shape) (ws : List ℤ) (k i : ℕ) : Type 0 where
  pub ranges : (j : ℕ) → j < (kind k).numbers → inside (range_of (get_or (numbers_of (kind k)) j Edition) s.statements) (get_or ws (start_of s k + i * (kind k).numbers + j) (pos 0)) ≡ true
  pub heads : headless (kind k) (row_at s ws k i) ≡ false
  pub names : missing s.exceptions (kind k) (row_at s ws k i) ≡ false

pub record Accepted (s : Shape) (ws : List ℤ) : Type 0 where
  pub limits : InLimits s
  pub size : length ws ≡ row_numbers s
  pub rows : (k i : ℕ) → first < k → k < last → i < count_at s k → RowRight s ws k i
