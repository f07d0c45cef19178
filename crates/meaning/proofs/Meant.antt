-- The book of a shape and its rows has as many rules and preferences under a condition as the shape says. By induction on the rows.
use mathlib.Core.Path.{◌≡◌, refl, ap}
use mathlib.Core.List.{List, []}
use Prim.Native.Nat.{ℕ, zero, suc, ◌+◌}
use lib.IntN.{ℤ}
use lib.ListN.{length}
use Rattle.book.specs.declared.Shape.{Shape}
use Rattle.book.specs.Kinds.{exception, conditional, rule_numbers, conditional_numbers}
use Rattle.book.specs.Counts.{start_of}
use Rattle.meaning.specs.Meant.{rules_at, conditional_at, book_of}

-- There is one rule for each row.
pub rules-length : (h w : ℕ) (t : List ℤ) (k m : ℕ) → length (rules_at h w t k m) ≡ m
unfolding rules_at
rules-length h w t k zero = refl
rules-length h w t k (suc m) = ap suc (rules-length h w t (k + w) m)

-- The book has as many exceptions as its shape says.
pub exceptions-count : (s : Shape) (t : List ℤ) → length (book_of s t).exceptions ≡ s.exceptions
unfolding book_of
exceptions-count s t = rules-length 1 rule_numbers t (start_of s exception) s.exceptions

-- And as many preferences under a condition; none, if the shape says so.
conditionals-length : (t : List ℤ) (k m : ℕ) → length (conditional_at t k m) ≡ m
unfolding conditional_at
conditionals-length t k zero = refl
conditionals-length t k (suc m) = ap suc (conditionals-length t (k + conditional_numbers) m)

pub conditionals-count : (s : Shape) (t : List ℤ) → length (book_of s t).conditional ≡ s.conditionals
unfolding book_of
conditionals-count s t = conditionals-length t (start_of s conditional) s.conditionals

pub unconditional : (s : Shape) (t : List ℤ) → s.conditionals ≡ 0 → (book_of s t).conditional ≡ []
unfolding book_of conditional_at
unconditional s t e = rw e refl
