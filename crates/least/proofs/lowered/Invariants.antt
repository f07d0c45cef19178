use Rattle.bounds.specs.Sound.{Keeps}
use Rattle.least.specs.Rows.{AnswersRows}
use Rattle.least.proofs.lowered.Given as goal

abbrev pub invariant-loop : goal.invariant-loop
invariant-loop l = Keeps (AnswersRows l.rows l.m) l.initial.y l.y
