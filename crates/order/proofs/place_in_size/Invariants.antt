use Rattle.order.proofs.Turns.{Finding}
use Rattle.order.proofs.place_in_size.Given as goal

abbrev pub invariant-loop-w : goal.invariant-loop-w
invariant-loop-w l = Finding l.x l.t l.place l.w l.left l.c
