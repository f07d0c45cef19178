-- Books without O lines mean what they meant: every rule has one head or none, and an answer set is document 01's, the least set closed under the rules.
-- And the words of document 02, (g), as they stand: no proper subset of S is closed.
use mathlib.Core.Path.{◌≡◌, refl, sym, ◌∙◌}
use mathlib.Core.Bool.{Bool, true, false}
use mathlib.Core.List.{List, [], ◌∷◌, ◌++◌}
use mathlib.Core.Logic.{◌↔◌}
use Prim.Native.Nat.{ℕ, zero, suc, ◌+◌, ◌≤◌}
use native.Mathlib.Omega.{arith}
use lib.IntN.{ℤ, negsuc}
use lib.IntN as Z
use lib.ListN.{length}
use Rattle.logic.specs.Lists.{Every}
use Rattle.logic.proofs.Decide.{clash}
use Rattle.sets.specs.declared.Pair.{Pair}
use Rattle.book.specs.declared.Shape.{Shape}
use Rattle.book.specs.Kinds.{heads_each, rule_numbers, alternative_numbers, plain, alternative, exception}
use Rattle.book.specs.Counts.{start_of}
use Rattle.meaning.specs.Literals.{Literal, Conclusions, is_in, ◌∈◌, ◌⊆◌, Consistent}
use Rattle.meaning.specs.Rules.{Rule}
use Rattle.meaning.specs.AnswerSets.{reduct, Closed, Minimal, Least, OneHead, Breaks, AnswerSet}
use Rattle.meaning.specs.Books.{applied}
use Rattle.meaning.specs.Meant.{entry, at, entries_at, rule_at, rules_at, book_of}
use Rattle.meaning.proofs.Closed.{one-head-least}
use Rattle.meaning.proofs.Ranges.{every_append, every-taken, every-reduct}

-- ---- the words of (g)
pub no-proper-subset : (rs : List Rule) (s : Conclusions) → Minimal rs s ↔ (Closed rs s × ((t : Conclusions) → t ⊆ s → (s ⊆ t → ⊥) → Closed rs t → ⊥))
no-proper-subset rs s = (
  λ m. (m.closed, λ t f n c. n (m.minimal t c f)),
  λ h. record { closed = h.0; minimal = λ t c f l i. there t (h.1 t f) c l i (is_in l t) refl },
)
  where
    there : (t : Conclusions) → ((s ⊆ t → ⊥) → Closed rs t → ⊥) → Closed rs t → (l : Literal) → l ∈ s → (x : Bool) → is_in l t ≡ x → l ∈ t
    there t n c l i true e = e
    there t n c l i false e = absurd (n (λ g. clash (sym e ∙ g l i)) c)

-- ---- one head or none
-- An answer set of such rules, in document 01's words.
pub one-head-answers : (rs : List Rule) → Every OneHead rs → (s : Conclusions)
    → AnswerSet rs s ↔ (Consistent s × Least (reduct s rs) s × Every (λ r. Breaks s r.body r.heads → ⊥) rs)
one-head-answers rs o s = let k = one-head-least (reduct s rs) (every-reduct (λ hs. length hs ≤ 1) s rs o) s in (
  λ a. (a.consistent, k.0 a.minimal, a.unbroken),
  λ h. record { consistent = h.0; minimal = k.1 h.1; unbroken = h.2 },
)

-- ---- books without O lines
entry-one : (x : ℤ) → length (entry x ++ []) ≤ 1
unfolding entry
entry-one (Z.pos zero) = omega arith
entry-one (Z.pos (suc i)) = omega arith
entry-one (negsuc i) = omega arith

rules-one : (w : ℕ) (t : List ℤ) (k m : ℕ) → Every OneHead (rules_at 1 w t k m)
unfolding rules_at rule_at entries_at
rules-one w t k zero = tt
rules-one w t k (suc m) = (entry-one (at t k), rules-one w t (k + w) m)

none-one : (h w : ℕ) (t : List ℤ) (k m : ℕ) → m ≡ 0 → Every OneHead (rules_at h w t k m)
unfolding rules_at
none-one h w t k zero e = tt
none-one h w t k (suc m) e = absurd (omega arith)

pub rows-one-head : (s : Shape) (t : List ℤ) → s.alternatives ≡ 0 → (p : Pair) → Every OneHead ((book_of s t).plain ++ applied (book_of s t) p)
unfolding book_of
rows-one-head s t e p =
    every_append OneHead (book_of s t).plain (applied (book_of s t) p)
    (every_append OneHead (rules_at 1 rule_numbers t (start_of s plain) s.plain) (rules_at heads_each alternative_numbers t (start_of s alternative) s.alternatives)
    (rules-one rule_numbers t (start_of s plain) s.plain) (none-one heads_each alternative_numbers t (start_of s alternative) s.alternatives e))
    (every-taken OneHead 1 (book_of s t).exceptions p.taken (rules-one rule_numbers t (start_of s exception) s.exceptions))
