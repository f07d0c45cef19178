-- Rules and their bodies.
use Rattle.std.specs.Prelude.{Bool, true, false, not, List}
use Rattle.logic.specs.Lists.{Every}
use Rattle.logic.specs.Tests.{every}
use Rattle.meaning.specs.Literals.{Literal, Conclusions, is_in, ◌∈◌}

-- A body: needed entries and barred entries.
pub record Body : Type 0 where
  pub needed : List Literal
  pub barred : List Literal

-- A rule: its heads and its body. A constraint has no head, an R or X line one, an O line two or three: alternatives.
pub record Rule : Type 0 where
  pub heads : List Literal
  pub body : Body

-- The body is satisfied by S: every needed entry is in S and no barred entry is.
pub record Satisfied (s : Conclusions) (b : Body) : Type 0 where
  pub needs : Every (λ l. l ∈ s) b.needed
  pub bars : Every (λ l. l ∈ s → ⊥) b.barred

-- The test of it.
unfoldable pub satisfied : Conclusions → Body → Bool
satisfied s b = elim (every (λ l. is_in l s) b.needed) [ true ↦ every (λ l. not (is_in l s)) b.barred | false ↦ false ]
