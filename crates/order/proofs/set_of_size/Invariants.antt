use Rattle.order.proofs.Turns.{Building}
use Rattle.order.proofs.set_of_size.Given as goal

abbrev pub invariant-loop-w : goal.invariant-loop-w
invariant-loop-w l = Building l.x l.n l.place l.t l.w l.left l.rest l.c
