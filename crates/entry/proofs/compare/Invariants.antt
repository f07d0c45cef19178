use Rattle.entry.proofs.Orders.{Compared}
use Rattle.entry.proofs.compare.Given as goal

abbrev pub invariant-loop-i : goal.invariant-loop-i
invariant-loop-i l = Compared l.a l.b l.i
