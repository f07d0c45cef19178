use Rattle.bounds.specs.Sound.{Keeps, Ruled}
use Rattle.queue.proofs.run.Given as goal

abbrev pub invariant-loop : goal.invariant-loop
invariant-loop l = Keeps (Ruled l.rules.words.now l.rules.count) l.initial.q.bounds l.q.bounds
