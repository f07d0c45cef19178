use Rattle.entry.proofs.Leaves.{Chained}
use Rattle.entry.proofs.is_name.Given as goal

abbrev pub invariant-loop-i : goal.invariant-loop-i
invariant-loop-i l = Chained l.s l.i
