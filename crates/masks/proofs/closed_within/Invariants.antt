use Rattle.masks.specs.Views.{MaskClosed}
use Rattle.masks.proofs.closed_within.Given as goal

abbrev pub invariant-loop-k : goal.invariant-loop-k
invariant-loop-k l = MaskClosed l.rules.words.now l.k l.v l.d
