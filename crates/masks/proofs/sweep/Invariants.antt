use Rattle.masks.specs.Views.{MeetsAll}
use Rattle.masks.specs.Closures.{Beneath}
use Rattle.masks.proofs.sweep.Given as goal

abbrev pub invariant-loop-k : goal.invariant-loop-k
invariant-loop-k l = MeetsAll l.rules.words.now l.k l.v × Beneath l.rules.words.now l.k l.v l.d
