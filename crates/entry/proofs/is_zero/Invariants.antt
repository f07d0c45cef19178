use Rattle.entry.proofs.Leaves.{Zeros}
use Rattle.entry.proofs.is_zero.Given as goal

abbrev pub invariant-loop-b : goal.invariant-loop-b
invariant-loop-b l = Zeros l.s l.any l.b-index
