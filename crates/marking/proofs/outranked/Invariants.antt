use Rattle.marking.proofs.Marks.{Upto}
use Rattle.marking.proofs.outranked.Given as goal

abbrev pub invariant-loop-a : goal.invariant-loop-a
invariant-loop-a l = Upto l.ranks l.taken l.a l.b
