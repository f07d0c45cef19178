-- Conclusions (literals) and sets of them (document 01, 'A book and its lines').
use Rattle.std.specs.Prelude.{ℕ, Bool, true, ◌≡◌}
use Rattle.sets.specs.Sets.{member}

-- A conclusion: +i says that statement i is held, -i that it is denied.
pub data Literal : Type 0 where
  pos : ℕ → Literal
  neg : ℕ → Literal

-- A set S of conclusions: the statements that it holds and those that it denies.
pub record Conclusions : Type 0 where
  pub held : ℕ
  pub denied : ℕ

-- The test of membership.
unfoldable pub is_in : Literal → Conclusions → Bool
is_in (pos i) s = member i s.held
is_in (neg i) s = member i s.denied

infix 50 ◌∈◌
infix 50 ◌⊆◌
-- The conclusion l is in S.
abbrev pub ◌∈◌ : Literal → Conclusions → Type 0
l ∈ s = is_in l s ≡ true

-- S is contained in t.
abbrev pub ◌⊆◌ : Conclusions → Conclusions → Type 0
s ⊆ t = (l : Literal) → l ∈ s → l ∈ t

-- S never has both +i and -i.
abbrev pub Consistent : Conclusions → Type 0
Consistent s = (i : ℕ) → pos i ∈ s → neg i ∈ s → ⊥
