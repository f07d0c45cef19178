-- Answer sets (Gelfond and Lifschitz 1991; heads may have alternatives).
use Rattle.std.specs.Prelude.{◌≤◌, Bool, true, false, not, List, [], ◌∷◌, length}
use Rattle.logic.specs.Lists.{Every, Some}
use Rattle.logic.specs.Tests.{cons_if}
use Rattle.meaning.specs.Literals.{Literal, Conclusions, is_in, ◌∈◌, ◌⊆◌, Consistent}
use Rattle.meaning.specs.Rules.{Body, Rule, Satisfied}

-- Some entry of the list is in S.
unfoldable pub some_in : Conclusions → List Literal → Bool
some_in s [] = false
some_in s (l ∷ ls) = elim (is_in l s) [ true ↦ true | false ↦ some_in s ls ]

-- The rule with its barred entries struck.
unfoldable pub struck : Rule → Rule
struck r = record { heads = r.heads; body = record { needed = r.body.needed; barred = [] } }

-- The reduct by S: rules with a barred entry in S are dropped, the other barred entries struck.
unfoldable pub reduct : Conclusions → List Rule → List Rule
reduct s [] = []
reduct s (r ∷ rs) = cons_if (not (some_in s r.body.barred)) (struck r) (reduct s rs)

-- At least one of the heads is in t; a constraint asks for none.
abbrev pub Given : List Literal → Conclusions → Type 0
Given [] t = Unit {0}
Given (l ∷ ls) t = Some (λ k. k ∈ t) (l ∷ ls)

-- t is closed under the rules: a rule whose needed entries are all in t has at least one of its heads in t.
abbrev pub Closed : List Rule → Conclusions → Type 0
Closed rs t = Every (λ r. Every (λ l. l ∈ t) r.body.needed → Given r.heads t) rs

-- s is closed under the rules, and no proper subset of s is: a closed set contained in s has all of s.
pub record Minimal (rs : List Rule) (s : Conclusions) : Type 0 where
  pub closed : Closed rs s
  pub minimal : (t : Conclusions) → Closed rs t → t ⊆ s → s ⊆ t

-- s is the least set closed under the rules: closed, and contained in every closed set.
-- For rules with one head or none, this is to be minimal (proofs/Closed, `one-head-least`): document 01's words.
pub record Least (rs : List Rule) (s : Conclusions) : Type 0 where
  pub closed : Closed rs s
  pub least : (t : Conclusions) → Closed rs t → s ⊆ t

-- The rule has one head or none.
abbrev pub OneHead : Rule → Type 0
OneHead r = length r.heads ≤ 1

-- S breaks a constraint if it satisfies its body; it breaks no rule with a head.
abbrev pub Breaks : Conclusions → Body → List Literal → Type 0
Breaks s b [] = Satisfied s b
Breaks s b (l ∷ ls) = ⊥

-- S is an answer set of the rules.
pub record AnswerSet (rs : List Rule) (s : Conclusions) : Type 0 where
  pub consistent : Consistent s
  pub minimal : Minimal (reduct s rs) s
  pub unbroken : Every (λ r. Breaks s r.body r.heads → ⊥) rs
