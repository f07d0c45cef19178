use Rattle.prepare.specs.Ranking.{ClosedThrough}
use Rattle.prepare.proofs.close_through.Given as goal

abbrev pub invariant-loop-rank : goal.invariant-loop-rank
invariant-loop-rank l = ClosedThrough l.d l.initial.ranks l.ranks l.rank-index
