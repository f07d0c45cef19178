use Rattle.prepare.specs.Ranking.{ClosedTo}
use Rattle.prepare.proofs.close.Given as goal

abbrev pub invariant-loop-d : goal.invariant-loop-d
invariant-loop-d l = ClosedTo l.initial.ranks l.ranks l.d
