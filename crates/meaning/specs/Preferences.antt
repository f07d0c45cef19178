-- Preferences (source 000, named in Published, Definitions 4 and 6).
use Rattle.std.specs.Prelude.{ℕ, Bool, true, false, List, [], ◌∷◌, eqb}
use Rattle.logic.specs.Lists.{Among}
use Rattle.logic.specs.Tests.{cons_if, keep, some}
use Rattle.meaning.specs.Literals.{Conclusions}
use Rattle.meaning.specs.Rules.{Body, satisfied}

-- A Q line: exception a before b in the sets that satisfy its body.
pub record Conditional : Type 0 where
  pub line : ℕ × ℕ
  pub body : Body

-- The Q lines that count as P lines in S: those whose body S satisfies.
unfoldable pub counting : Conclusions → List Conditional → List (ℕ × ℕ)
counting s [] = []
counting s (q ∷ qs) = cons_if (satisfied s q.body) q.line (counting s qs)

-- Two lines are the same step.
unfoldable pub same_step : ℕ × ℕ → ℕ × ℕ → Bool
same_step l m = elim (eqb l.0 m.0) [ true ↦ eqb l.1 m.1 | false ↦ false ]

-- The steps that the lines of both lists give, the same or others.
unfoldable pub in_both : List (ℕ × ℕ) → List (ℕ × ℕ) → List (ℕ × ℕ)
in_both ls ms = keep (λ l. some (same_step l) ms) ls

-- a outranks b: lines lead from a to b in one or more steps.
pub data Outranks (lines : List (ℕ × ℕ)) : ℕ → ℕ → Type 0 where
  step : {a b : ℕ} → Among (a, b) lines → Outranks lines a b
  chain : {a b c : ℕ} → Among (a, c) lines → Outranks lines c b → Outranks lines a b
