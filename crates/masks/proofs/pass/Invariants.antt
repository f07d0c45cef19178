use Rattle.masks.specs.Closures.{Passed}
use Rattle.masks.proofs.pass.Given as goal

abbrev pub invariant-loop-k : goal.invariant-loop-k
invariant-loop-k l = Passed l.rules.words.now l.k l.b l.initial.d l.d
