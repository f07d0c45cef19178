use Rattle.masks.specs.Steps.{Passing}
use Rattle.masks.proofs.lines.passing.Given as goal

abbrev pub invariant-loop-j : goal.invariant-loop-j
invariant-loop-j g l = Passing (goal.F-post g l.test) l.j l.m
