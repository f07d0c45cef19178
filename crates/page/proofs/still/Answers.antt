use Rattle.std.proofs.Common.{◌≡◌, Bool, ◌==◌, ◌∙◌}
use denote.Enum.Bare.{sameb}
use Rattle.page.specs.contracts.Value.{the_type}
use Rattle.page.specs.declared.Value.{Value}
use Rattle.page.specs.declared.Value.TheVariants.{Absent, Held, Denied}
use Rattle.page.specs.Orders.{number}
use Rattle.page.proofs.Search.{where-equal, where-not}
use Rattle.page.proofs.still.Goals as goal

-- Two values are the same exactly where their numbers are.
same_is : (v w : Value) (r : Bool) → r ≡ sameb the_type v w → r ≡ (number v == number w)
same_is Absent Absent r e = e
same_is Absent Held r e = e
same_is Absent Denied r e = e
same_is Held Absent r e = e
same_is Held Held r e = e
same_is Held Denied r e = e
same_is Denied Absent r e = e
same_is Denied Held r e = e
same_is Denied Denied r e = e

pub returns-then-equal : goal.returns-then-equal
returns-then-equal c = same_is _ _ _ c.eq.ensures ∙ where-equal _ _ c.if-equal.true

pub returns-else-equal : goal.returns-else-equal
returns-else-equal c = where-not _ _ c.if-equal.false
