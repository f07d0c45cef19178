-- What is said of rules, ranks and index, said of a prepared book, which holds them.
use Rattle.masks.specs.declared.Bounds.{Bounds}
use Rattle.queue.specs.declared.Prepared.{Prepared}
use Rattle.sets.specs.declared.Pair.{Pair}
use Rattle.std.specs.Prelude.{ℕ}
use Rattle.admissible.specs.Admissible as admissible

abbrev pub Admissible : Prepared → Bounds → ℕ → Type 0
Admissible k = admissible.Admissible k.rules.words.now k.rules.count k.ranks.now

abbrev pub Minimal : Prepared → Bounds → ℕ → Type 0
Minimal k = admissible.Minimal k.rules.words.now k.rules.count k.ranks.now

abbrev pub MinimalAt : Prepared → Bounds → ℕ → ℕ → Type 0
MinimalAt k = admissible.MinimalAt k.rules.words.now k.rules.count k.ranks.now

abbrev pub Stands : Prepared → Bounds → Pair → Type 0
Stands k = admissible.Stands k.rules.words.now k.rules.count k.ranks.now

abbrev pub Undominated : Prepared → Bounds → ℕ → Type 0
Undominated k = admissible.Undominated k.rules.words.now k.rules.count k.ranks.now

abbrev pub UndominatedAt : Prepared → Bounds → ℕ → ℕ → ℕ → Type 0
UndominatedAt k = admissible.UndominatedAt k.rules.words.now k.rules.count k.ranks.now

abbrev pub Unexceeded : Prepared → Bounds → ℕ → Type 0
Unexceeded k = admissible.Unexceeded k.rules.words.now k.rules.count k.ranks.now
