-- What is said of rules, ranks and index, said of a prepared book, which holds them.
use Rattle.masks.specs.declared.Bounds.{Bounds}
use Rattle.queue.specs.declared.Prepared.{Prepared}
use Rattle.sets.specs.declared.Pair.{Pair}
use Rattle.std.specs.Prelude.{Bool, ℕ}
use Rattle.judge.specs.Judged as judged

abbrev pub Free : Prepared → Bounds → Pair → Bool → Type 0
Free k = judged.Free k.rules.words.now k.rules.count k.ranks.now

abbrev pub Judged : Prepared → Bounds → Pair → ℕ → Type 0
Judged k = judged.Judged k.rules.words.now k.rules.count k.ranks.now

abbrev pub Smallest : Prepared → Bounds → Pair → Bool → Type 0
Smallest k = judged.Smallest k.rules.words.now k.rules.count k.ranks.now
