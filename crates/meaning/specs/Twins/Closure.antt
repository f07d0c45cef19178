-- A closed set, computed: a rule whose needed entries are there is taken out and its heads added, all of them, until none is left.
-- For rules with one head or none it is the least one.
use Rattle.std.specs.Prelude.{ℕ, zero, suc, ◌+◌, ◌-◌, ◌^◌, true, false, List, [], ◌∷◌, length}
use Rattle.logic.specs.Tests.{every}
use Rattle.sets.specs.Sets.{member}
use Rattle.meaning.specs.Literals.{Literal, pos, neg, Conclusions, is_in}
use Rattle.meaning.specs.Rules.{Rule}

-- The set a with number i.
unfoldable pub add_to : ℕ → ℕ → ℕ
add_to i a = elim (member i a) [ true ↦ a | false ↦ a + 2 ^ (i - 1) ]

-- S with the conclusion l.
unfoldable pub add : Literal → Conclusions → Conclusions
add (pos i) s = record { held = add_to i s.held; denied = s.denied }
add (neg i) s = record { held = s.held; denied = add_to i s.denied }

-- S with all of the heads.
unfoldable pub add_heads : List Literal → Conclusions → Conclusions
add_heads [] s = s
add_heads (l ∷ ls) s = add l (add_heads ls s)

-- No rule fires, or one does and the others are left.
pub data Fired : Type 0 where
  nothing : Fired
  fires : Rule → List Rule → Fired

unfoldable pub keep_back : Rule → Fired → Fired
keep_back r nothing = nothing
keep_back r (fires q rs) = fires q (r ∷ rs)

-- The first rule whose needed entries are all in t.
unfoldable pub take_out : Conclusions → List Rule → Fired
take_out t [] = nothing
take_out t (r ∷ rs) = elim (every (λ l. is_in l t) r.body.needed) [ true ↦ fires r rs | false ↦ keep_back r (take_out t rs) ]

-- At most k rules fire, one after the other.
unfoldable pub close_by : ℕ → List Rule → Conclusions → Conclusions
close_by zero rs t = t
close_by (suc k) rs t = elim (take_out t rs) [ nothing ↦ t | fires r rest ↦ close_by k rest (add_heads r.heads t) ]

unfoldable pub empty : Conclusions
empty = record { held = 0; denied = 0 }

-- The closure of the rules.
unfoldable pub closure : List Rule → Conclusions
closure rs = close_by (length rs) rs empty
