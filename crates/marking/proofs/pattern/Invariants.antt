use Rattle.marking.specs.Marks.{Pattern}
use Rattle.marking.proofs.pattern.Given as goal

abbrev pub invariant-loop-i : goal.invariant-loop-i
invariant-loop-i l = Pattern l.i l.lo l.hi l.p
