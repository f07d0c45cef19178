-- How many lines of each kind a book has, where the rows of a kind begin in its number table, and what it is for a shape to be in the
-- limits. From reading to the prepared book nothing else repeats the counts of a shape one by one; `book_of` gives each its meaning.
use Rattle.std.specs.Prelude.{ℕ, zero, suc, ◌+◌, ◌*◌, ◌≤◌, List, [], ◌∷◌, ◌++◌, get_or}
use Rattle.book.specs.declared.Kind.{Kind}
use Rattle.book.specs.declared.Shape.{Shape}
use Rattle.book.specs.Limits as limit
use Rattle.book.specs.Kinds.{kind, bytes, row_once, plain, alternative, exception, preference, conditional, none}

-- How many rows there are of each kind that is a row of the table, in line order.
unfoldable pub counts_of : Shape → List ℕ
counts_of s = s.plain ∷ s.alternatives ∷ s.exceptions ∷ s.preferences ∷ s.conditionals ∷ []

-- The numbers before the table's rows: n, and these counts in their own order, that of R, X, P, Q and O.
unfoldable pub front_of : Shape → List ℕ
front_of s = s.statements ∷ s.plain ∷ s.exceptions ∷ s.preferences ∷ s.conditionals ∷ s.alternatives ∷ []

-- How many lines there are of each kind, in the order of a text: one B, the rows, one Z.
unfoldable pub all_counts : Shape → List ℕ
all_counts s = 1 ∷ (counts_of s ++ (1 ∷ []))

-- How many lines there are of the kind at place k.
unfoldable pub count_at : Shape → ℕ → ℕ
count_at s k = get_or (all_counts s) k 0

-- The shape of n statements and so many lines of each kind, in the order of a text.
unfoldable pub shape_from : ℕ → List ℕ → Shape
shape_from n cs = record {
  statements = n;
  plain = get_or cs plain 0;
  exceptions = get_or cs exception 0;
  preferences = get_or cs preference 0;
  conditionals = get_or cs conditional 0;
  alternatives = get_or cs alternative 0;
}

-- The sum over the kinds before place k of a number that each has, as often as the book has such lines.
unfoldable pub sum_to : (Kind → ℕ) → Shape → ℕ → ℕ
sum_to f s zero = 0
sum_to f s (suc k) = sum_to f s k + count_at s k * f (kind k)

-- The numbers that a line of a kind gives to the number table.
abbrev pub numbers_each : Kind → ℕ
numbers_each x = x.numbers

-- Where the rows of the kind at place k begin among the numbers of all rows, and how many these are.
abbrev pub start_of : Shape → ℕ → ℕ
start_of s k = sum_to numbers_each s k

abbrev pub row_numbers : Shape → ℕ
row_numbers s = start_of s none

-- How many rows there are, which Z counts; and how many bytes the text has.
abbrev pub total : Shape → ℕ
total s = sum_to row_once s none

abbrev pub text_bytes : Shape → ℕ
text_bytes s = sum_to bytes s none

-- The shape is in the limits: n, and the count of each kind.
pub record InLimits (s : Shape) : Type 0 where
  pub some_statement : 1 ≤ s.statements
  pub statements : s.statements ≤ limit.statements
  pub counts : (k : ℕ) → count_at s k ≤ (kind k).limit
