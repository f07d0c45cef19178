use Rattle.bounds.specs.Sound.{Keeps, Levelled}
use Rattle.bounds.proofs.levels.Given as goal

abbrev pub invariant-loop-a : goal.invariant-loop-a
invariant-loop-a l = Keeps (Levelled l.ranks) l.initial.o l.o
