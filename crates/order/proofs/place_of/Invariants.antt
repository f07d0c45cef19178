use mathlib.Core.Path.{◌≡◌}
use Rattle.sets.specs.Sets.{size_to}
use Rattle.order.proofs.Turns.{Summing}
use Rattle.order.proofs.place_of.Given as goal

abbrev pub invariant-loop-n : goal.invariant-loop-n
invariant-loop-n l = Summing l.x l.t l.n l.count l.before × (l.size ≡ size_to l.x l.t)
