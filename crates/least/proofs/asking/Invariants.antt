use Rattle.least.proofs.Steps.{AnswersFrom}
use Rattle.least.proofs.asking.Given as goal

abbrev pub invariant-loop-k : goal.invariant-loop-k
invariant-loop-k l = AnswersFrom l.rows l.k l.m l.c
