-- What is said of rules, ranks and index, said of a prepared book, which holds them.
use Rattle.masks.specs.declared.Bounds.{Bounds}
use Rattle.queue.specs.declared.Prepared.{Prepared}
use Rattle.ranges.specs.declared.Range.{Range}
use Rattle.std.specs.Prelude.{ℕ}
use Rattle.ranges.specs.Ranges as ranges

abbrev pub NoView : Prepared → Bounds → ℕ → ℕ → Type 0
NoView k = ranges.NoView k.rules.words.now k.rules.count k.ranks.now

abbrev pub Wider : Prepared → Bounds → Range → Range → Type 0
Wider k = ranges.Wider k.rules.words.now k.rules.count k.ranks.now
