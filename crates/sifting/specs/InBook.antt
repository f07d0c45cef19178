-- What is said of rules, ranks and index, said of a prepared book, which holds them.
use Rattle.masks.specs.declared.Bounds.{Bounds}
use Rattle.page.specs.Sought.{sought}
use Rattle.page.specs.declared.Task.{Task}
use Rattle.queue.specs.declared.Prepared.{Prepared}
use Rattle.standing.specs.declared.memory.Memory.{Memory}
use Rattle.std.specs.Prelude.{Bool, List, ℕ}
use Rattle.sifting.specs.Sifted as sifted

abbrev pub AllSifted : Prepared → Bounds → Task → ℕ → Bounds → Bool → ℕ → Memory → Memory → List ℕ → List ℕ → ℕ → Type 0
AllSifted k x q = sifted.AllSifted k.rules.words.now k.ranks.now x (sought k.rules.count q)

abbrev pub Sifts : Prepared → Bounds → Task → Memory → Memory → ℕ → Type 0 → Type 0
Sifts k x q = sifted.Sifts k.rules.words.now k.ranks.now x (sought k.rules.count q)
