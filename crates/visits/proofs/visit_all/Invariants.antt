use Rattle.visits.specs.Visits.{Visited}
use Rattle.visits.proofs.visit_all.Given as goal

abbrev pub invariant-loop-k : goal.invariant-loop-k
invariant-loop-k l = Visited l.calls 0 l.k l.initial.store l.store l.initial.answers l.answers
