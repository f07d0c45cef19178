use Rattle.order.proofs.Turns.{Sizing}
use Rattle.order.proofs.set_at.Given as goal

abbrev pub invariant-loop-n : goal.invariant-loop-n
invariant-loop-n l = Sizing l.x l.place l.n l.count l.rest
