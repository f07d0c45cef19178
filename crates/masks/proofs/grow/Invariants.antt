use Rattle.masks.specs.Closures.{Beneath}
use Rattle.masks.proofs.grow.Given as goal

abbrev pub invariant-loop-k : goal.invariant-loop-k
invariant-loop-k l = Beneath l.rules.words.now l.rules.count l.v l.e
