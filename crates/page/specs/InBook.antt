-- What is said of rules, ranks and index, said of a prepared book, which holds them.
use Rattle.masks.specs.declared.Bounds.{Bounds}
use Rattle.page.specs.Sought.{Sought, sought}
use Rattle.page.specs.declared.Node.{Node}
use Rattle.page.specs.declared.Task.{Task}
use Rattle.queue.specs.declared.Prepared.{Prepared}
use Rattle.sets.specs.declared.Pair.{Pair}
use Rattle.std.specs.Prelude.{List, Option, ℕ}
use Rattle.page.specs.Pages as pages

-- The task in the book.
abbrev pub asked : Prepared → Task → Sought
asked k q = sought k.rules.count q

abbrev pub Barren : Prepared → Bounds → Type 0
Barren k = pages.Barren k.rules.words.now k.rules.count k.ranks.now

abbrev pub BranchReady : Prepared → Task → ℕ → ℕ → Type 0
BranchReady k q = pages.BranchReady k.rules.words.now k.ranks.now (sought k.rules.count q)

abbrev pub Branched : Prepared → Task → ℕ → ℕ → Node → Option Node → Type 0
Branched k q = pages.Branched k.rules.words.now k.ranks.now (sought k.rules.count q)

abbrev pub Fits : Prepared → List ℕ → Task → ℕ → Type 0
Fits k x q = pages.Fits k.rules.words.now k.ranks.now x (sought k.rules.count q)

abbrev pub Ready : Prepared → List ℕ → Task → ℕ → ℕ → Type 0
Ready k x q = pages.Ready k.rules.words.now k.ranks.now x (sought k.rules.count q)

abbrev pub ViewGiving : Prepared → ℕ → ℕ → Pair → Type 0
ViewGiving k = pages.ViewGiving k.rules.words.now k.rules.count k.ranks.now
