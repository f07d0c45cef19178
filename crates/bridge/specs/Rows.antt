-- What an accepted book's shape and rows are (document 01, 'A book and its lines'; document 02, (e), (g)): the limits and the ranges of the numbers, row by row.
use Rattle.std.specs.Prelude.{ℕ, ◌+◌, ◌*◌, ◌<◌, ◌≤◌, List, ℤ, nat_abs, length}
use Rattle.book.specs.declared.Shape.{Shape}
use Rattle.book.specs.Kinds.{kind, entries_each, plain, exception, preference, conditional, preference_numbers, conditional_numbers}
use Rattle.book.specs.Counts.{count_at, start_of, row_numbers, InLimits}
use Rattle.meaning.specs.Meant.{at, number}
use Rattle.bridge.specs.Ranks.{Names}

-- How many rules the book has: R lines, O lines and X lines.
abbrev pub rule_count : Shape → ℕ
rule_count s = s.plain + s.alternatives + s.exceptions

-- The shape is in the limits, the rows have room, the heads and entries of rules, which stand from the place of R to that of X, lie in -n to n, also
-- the entries of a Q row, and both numbers of a P row name exceptions of the book; so do the first two of a Q row.
pub record RowsLawful (s : Shape) (t : List ℤ) : Type 0 where
  pub limits : InLimits s
  pub room : row_numbers s ≤ length t
  pub entries : (q : ℕ) → plain ≤ q → q ≤ exception → (k : ℕ) → k < count_at s q → (i : ℕ) → i < (kind q).heads + (entries_each + entries_each)
      → nat_abs (at t (start_of s q + k * (kind q).numbers + i)) ≤ s.statements
  pub names : (k : ℕ) → k < s.preferences → (i : ℕ) → i < preference_numbers → Names s.exceptions (number (at t (start_of s preference + k * preference_numbers + i)))
  pub conditions : (k : ℕ) → k < s.conditionals → (i : ℕ) → preference_numbers ≤ i → i < conditional_numbers → nat_abs (at t (start_of s conditional + k * conditional_numbers + i)) ≤ s.statements
  pub line_names : (k : ℕ) → k < s.conditionals → (i : ℕ) → i < preference_numbers → Names s.exceptions (number (at t (start_of s conditional + k * conditional_numbers + i)))
