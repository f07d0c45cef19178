use Rattle.masks.specs.Steps.{Mates}
use Rattle.masks.proofs.lines.mates.Given as goal

abbrev pub invariant-loop-i : goal.invariant-loop-i
invariant-loop-i l = Mates l.rules.words.now l.rules.count l.m l.i l.o
