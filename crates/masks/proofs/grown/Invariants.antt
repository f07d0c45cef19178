use Rattle.masks.specs.Closures.{Beneath}
use Rattle.masks.proofs.grown.Given as goal

abbrev pub invariant-loop : goal.invariant-loop
invariant-loop l = Beneath l.rules.words.now l.rules.count l.v l.c
