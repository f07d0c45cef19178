use Rattle.bounds.specs.Sound.{Keeps}
use Rattle.least.specs.Rows.{AnswersRows}
use Rattle.least.proofs.pass.Given as goal

abbrev pub invariant-loop-k : goal.invariant-loop-k
invariant-loop-k l = Keeps (AnswersRows l.rows l.m) l.initial.y l.y
