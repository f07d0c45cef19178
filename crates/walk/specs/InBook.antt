-- What is said of rules, ranks and index, said of a prepared book, which holds them.
use Rattle.masks.specs.declared.Bounds.{Bounds}
use Rattle.page.specs.Sought.{sought}
use Rattle.page.specs.declared.Task.{Task}
use Rattle.queue.specs.declared.Prepared.{Prepared}
use Rattle.standing.specs.declared.memory.Memory.{Memory}
use Rattle.std.specs.Prelude.{Bool, List, ℕ}
use Rattle.walk.specs.Walks as walks

abbrev pub Paged : Prepared → Bounds → Task → ℕ → Bool → List ℕ → List ℕ → ℕ → Type 0
Paged k x q = walks.Paged k.rules.words.now k.ranks.now x (sought k.rules.count q)

abbrev pub Walked : Prepared → Bounds → Task → ℕ → ℕ → Bool → ℕ → List ℕ → Memory → List ℕ → List ℕ → ℕ → Type 0
Walked k x q = walks.Walked k.rules.words.now k.ranks.now x (sought k.rules.count q)
