use mathlib.Core.Bool.{true}
use mathlib.Core.Path.{◌≡◌}
use lib.ListN.{length}
use Rattle.queue.specs.Places.{index_length}
use Rattle.queue.specs.Chains.{ChainsFrom}
use Rattle.queue.proofs.heads.chained.Given as goal

abbrev pub invariant-loop-k : goal.invariant-loop-k
invariant-loop-k l = (length l.index ≡ index_length) × (l.whole ≡ true → ChainsFrom l.rules.words.now l.rules.count l.index l.k)
