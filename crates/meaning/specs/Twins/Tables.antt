-- The order of pairs as a test, and the test of a worked example.
use Rattle.std.specs.Prelude.{ℕ, zero, suc, Bool, true, false, List, [], ◌∷◌, eqb, ltb}
use Rattle.logic.specs.Tests.{every, some}
use Rattle.sets.specs.Sets.{size}
use Rattle.sets.specs.declared.Pair.{Pair}
use Rattle.meaning.specs.Books.{Book}
use Rattle.meaning.specs.Order.{value}
use Rattle.meaning.specs.Twins.Verdicts.{lawful, verdict, resolutions}

-- At the first of the k statements from i on that differs, p has the smaller value.
unfoldable pub differs_from : ℕ → ℕ → Pair → Pair → Bool
differs_from zero i p q = false
differs_from (suc k) i p q =
    elim (ltb (value p i) (value q i)) [ true ↦ true | false ↦ elim (eqb (value p i) (value q i)) [ true ↦ differs_from k (suc i) p q | false ↦ false ] ]

-- The pair p comes before q, in a book of n statements.
unfoldable pub before : ℕ → Pair → Pair → Bool
before n p q =
    elim (ltb (size p.taken) (size q.taken)) [
      | true ↦ true
      | false ↦
          elim (eqb (size p.taken) (size q.taken)) [
            | false ↦ false
            | true ↦
                elim (ltb p.taken q.taken) [
                  | true ↦ true
                  | false ↦
                      elim (eqb p.taken q.taken) [ true ↦ differs_from n 1 p q | false ↦ false ]
                ]
          ]
    ]

unfoldable pub ascending : ℕ → List Pair → Bool
ascending n [] = true
ascending n (p ∷ ps) = elim (every (before n p) ps) [ true ↦ ascending n ps | false ↦ false ]

unfoldable pub same_pair : Pair → Pair → Bool
same_pair p q = elim (eqb p.taken q.taken) [ true ↦ elim (eqb p.held q.held) [ true ↦ eqb p.denied q.denied | false ↦ false ] | false ↦ false ]

-- A worked example: a book, all its resolutions in order, and the verdicts on some pairs.
pub record Example : Type 0 where
  pub book : Book
  pub found : List Pair
  pub judged : List (Pair × ℕ)

-- The two lists have the same members.
unfoldable pub same_members : List Pair → List Pair → Bool
same_members ps qs = elim (every (λ p. some (λ q. same_pair q p) qs) ps) [ true ↦ every (λ q. some (λ p. same_pair p q) ps) qs | false ↦ false ]

-- The example is right.
unfoldable pub right : Example → Bool
right e =
    elim (same_members e.found (resolutions e.book)) [
      | true ↦
          elim (ascending e.book.statements e.found) [
            | true ↦
                every (λ (j : Pair × ℕ). elim (lawful e.book j.0) [ true ↦ eqb (verdict e.book j.0) j.1 | false ↦ false ]) e.judged
            | false ↦ false
          ]
      | false ↦ false
    ]
