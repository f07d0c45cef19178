use Rattle.masks.specs.Steps.{ByLines}
use Rattle.masks.proofs.lines.by_lines.Given as goal

abbrev pub invariant-loop-j : goal.invariant-loop-j
invariant-loop-j l = ByLines l.rules.words.now l.rules.count l.m l.j l.t l.o l.p
