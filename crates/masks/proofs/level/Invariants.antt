use Rattle.masks.proofs.Tests.{LevelTo}
use Rattle.masks.proofs.level.Given as goal

abbrev pub invariant-loop-a : goal.invariant-loop-a
invariant-loop-a l = LevelTo l.ranks l.a l.taken
