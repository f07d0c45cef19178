-- What is said of rules, ranks and index, said of a prepared book, which holds them.
use Rattle.masks.specs.declared.Bounds.{Bounds}
use Rattle.queue.specs.declared.Prepared.{Prepared}
use Rattle.sets.specs.declared.Pair.{Pair}
use Rattle.std.specs.Prelude.{Bool, Option, ℕ}
use Rattle.superior.specs.Superiors as superiors

abbrev pub Assumed : Prepared → Bounds → ℕ → Bounds → Type 0
Assumed k = superiors.Assumed k.rules.words.now k.rules.count k.ranks.now

abbrev pub Hopeless : Prepared → Bounds → ℕ → ℕ → Bool → Type 0
Hopeless k = superiors.Hopeless k.rules.words.now k.rules.count k.ranks.now

abbrev pub Left : Prepared → Bounds → ℕ → Bounds → Type 0
Left k = superiors.Left k.rules.words.now k.rules.count k.ranks.now

abbrev pub Superior : Prepared → Bounds → ℕ → ℕ → ℕ → Option Pair → Type 0
Superior k = superiors.Superior k.rules.words.now k.rules.count k.ranks.now

abbrev pub Taking : Prepared → Bounds → ℕ → ℕ → Option Pair → Type 0
Taking k = superiors.Taking k.rules.words.now k.rules.count k.ranks.now

abbrev pub TakingAt : Prepared → Bounds → ℕ → ℕ → Option Pair → Type 0
TakingAt k = superiors.TakingAt k.rules.words.now k.rules.count k.ranks.now
