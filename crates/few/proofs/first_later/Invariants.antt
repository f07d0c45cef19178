use Rattle.few.specs.Few.{FirstOf}
use Rattle.few.proofs.first_later.Given as goal

abbrev pub invariant-loop-i : goal.invariant-loop-i
invariant-loop-i l = FirstOf l.store l.k l.last l.i l.best
