use Rattle.masks.specs.Steps.{ByRanks}
use Rattle.masks.proofs.lines.by_ranks.Given as goal

abbrev pub invariant-loop-a : goal.invariant-loop-a
invariant-loop-a l = ByRanks l.ranks l.a l.t l.o l.p
