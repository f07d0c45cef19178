-- What is said of rules, ranks and index, said of a prepared book, which holds them.
use Rattle.few.specs.declared.Place.{Place}
use Rattle.masks.specs.declared.Bounds.{Bounds}
use Rattle.page.specs.Sought.{sought}
use Rattle.page.specs.declared.Task.{Task}
use Rattle.queue.specs.declared.Prepared.{Prepared}
use Rattle.std.specs.Prelude.{List, ℕ}
use Rattle.few.specs.Few as few

abbrev pub AllListed : Prepared → Task → Bounds → List ℕ → ℕ → ℕ → List ℕ → List ℕ → ℕ → Type 0
AllListed k q = few.AllListed k.rules.words.now k.ranks.now (sought k.rules.count q)

abbrev pub Collected : Prepared → Bounds → ℕ → List ℕ → ℕ → Type 0
Collected k = few.Collected k.rules.words.now k.rules.count k.ranks.now

abbrev pub Gathered : Prepared → Bounds → ℕ → ℕ → ℕ → List ℕ → List ℕ → Place → Type 0
Gathered k = few.Gathered k.rules.words.now k.rules.count k.ranks.now
