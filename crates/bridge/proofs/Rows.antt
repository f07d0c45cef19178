-- The preferences of accepted rows name exceptions of the book, and so do those under a condition.
-- By induction on the P rows and on the Q rows; the book has as many exceptions as its shape says.
use mathlib.Core.Path.{◌≡◌}
use mathlib.Core.List.{List}
use Prim.Native.Nat.{ℕ, zero, suc, ◌+◌, ◌*◌, ◌<◌, ◌≤◌}
use native.Mathlib.Omega.{arith}
use lib.IntN.{ℤ}
use lib.ListN.{length}
use Rattle.logic.specs.Lists.{Every}
use Rattle.book.specs.declared.Shape.{Shape}
use Rattle.book.specs.Limits as limit
use Rattle.book.specs.Kinds.{kinds, kind, none, preference, conditional, preference_numbers, conditional_numbers}
use Rattle.book.specs.Counts.{counts_of, all_counts, count_at, sum_to, start_of, row_numbers, numbers_each}
use Rattle.book.proofs.Counts.{exceptions-in, sum-up}
use Rattle.meaning.specs.Preferences.{Conditional}
use Rattle.meaning.specs.Meant.{at, number, preferences_at, condition_at, conditional_at, book_of}
use Rattle.meaning.proofs.Meant.{exceptions-count}
use Rattle.bridge.specs.Ranks.{Names, Named, LinesNamed}
use Rattle.bridge.specs.Rows.{RowsLawful}

-- What holds of both numbers of each P row holds of both numbers of each preference.
every-preference : (P : ℕ → Type 0) (t : List ℤ) (k m : ℕ) → ((j : ℕ) → j < m → (i : ℕ) → i < preference_numbers → P (number (at t (k + j * preference_numbers + i))))
    → Every (λ (l : ℕ × ℕ). P l.0 × P l.1) (preferences_at t k m)
unfolding preferences_at
every-preference P t k zero f = tt
every-preference P t k (suc m) f =
    let a : k + 0 * preference_numbers + 0 ≡ k = omega arith in let b : k + 0 * preference_numbers + 1 ≡ k + 1 = omega arith in (
      (rw a at (f 0 (omega arith) 0 (omega arith)), rw b at (f 0 (omega arith) 1 (omega arith))),
      every-preference P t (k + preference_numbers) m
          (λ j l i h. let e : k + suc j * preference_numbers + i ≡ k + preference_numbers + j * preference_numbers + i = omega arith in rw e at (f (suc j) (omega arith) i h)),
    )

-- What holds of each Q row's line holds of each preference under a condition.
every-line : (P : Conditional → Type 0) (t : List ℤ) (k m : ℕ) → ((j : ℕ) → j < m → P (condition_at t (k + j * conditional_numbers))) → Every P (conditional_at t k m)
unfolding conditional_at
every-line P t k zero f = tt
every-line P t k (suc m) f = let a : k + 0 * conditional_numbers ≡ k = omega arith in (
  rw a at (f 0 (omega arith)),
  every-line P t (k + conditional_numbers) m
      (λ j l. let e : k + suc j * conditional_numbers ≡ k + conditional_numbers + j * conditional_numbers = omega arith in rw e at (f (suc j) (omega arith))),
)

module _ (s : Shape) (t : List ℤ) (w : RowsLawful s t) where
  -- The exceptions that the shape counts are those of the book.
  in-book : (i : ℕ) → Names s.exceptions i → Names (length (book_of s t).exceptions) i
  in-book i n = record { from_one = n.from_one; most = rw (exceptions-count s t) n.most }

  pub rows_named : Named (book_of s t)
  unfolding book_of
  rows_named = every-preference (Names (length (book_of s t).exceptions)) t (start_of s preference) s.preferences (λ j l i h. in-book _ (w.names j l i h))

  pub lines_named : LinesNamed (book_of s t)
  unfolding book_of condition_at
  lines_named =
      every-line (λ (q : Conditional). Names (length (book_of s t).exceptions) q.line.0 × Names (length (book_of s t).exceptions) q.line.1) t (start_of s conditional) s.conditionals
      (λ j l. let k = start_of s conditional + j * conditional_numbers in let a : k + 0 ≡ k = omega arith in
      (in-book _ (rw a at (w.line_names j l 0 (omega arith))), in-book _ (w.line_names j l 1 (omega arith))))

  -- They are no more than a book may have.
  pub names-within : (i : ℕ) → Names s.exceptions i → Names limit.exceptions i
  names-within i n = record { from_one = n.from_one; most = let m = n.most in let b = exceptions-in s w.limits in omega arith }

-- ---- where the rows stand
-- The rows of a kind end among the numbers of the rows.
pub kind-end : (s : Shape) (q : ℕ) → q < none → start_of s q + count_at s q * (kind q).numbers ≤ row_numbers s
unfolding sum_to
kind-end s q h = sum-up numbers_each s (suc q) (omega arith)

pub preference-end : (s : Shape) → start_of s preference + s.preferences * preference_numbers ≤ row_numbers s
unfolding count_at all_counts counts_of kind kinds
preference-end s = kind-end s preference (omega arith)

pub conditional-end : (s : Shape) → start_of s conditional + s.conditionals * conditional_numbers ≤ row_numbers s
unfolding count_at all_counts counts_of kind kinds
conditional-end s = kind-end s conditional (omega arith)
