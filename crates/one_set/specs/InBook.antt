-- What is said of rules, ranks and index, said of a prepared book, which holds them.
use Rattle.masks.specs.declared.Bounds.{Bounds}
use Rattle.one_set.specs.declared.Views.{Views}
use Rattle.page.specs.Sought.{sought}
use Rattle.page.specs.declared.Task.{Task}
use Rattle.queue.specs.declared.Prepared.{Prepared}
use Rattle.queue.specs.declared.Rest.{Rest}
use Rattle.standing.specs.declared.memory.Memory.{Memory}
use Rattle.std.specs.Prelude.{Bool, List, Option, ℕ}
use Rattle.one_set.specs.Plans as plans

abbrev pub Admits : Prepared → Bounds → ℕ → Bool → List ℕ → List ℕ → Bool → Type 0
Admits k = plans.Admits k.rules.words.now k.rules.count k.ranks.now

abbrev pub Gathered : Prepared → Bounds → ℕ → ℕ → List ℕ → List ℕ → List ℕ → Option Views → Type 0
Gathered k = plans.Gathered k.rules.words.now k.rules.count k.ranks.now

abbrev pub HasView : Prepared → Bounds → ℕ → Type 0
HasView k = plans.HasView k.rules.words.now k.rules.count k.ranks.now

abbrev pub Looked : Prepared → Bounds → ℕ → List ℕ → List ℕ → Memory → Memory → Option Rest → Type 0
Looked k = plans.Looked k.rules.words.now k.rules.count k.ranks.now

abbrev pub MarksRight : Prepared → Bounds → List ℕ → List ℕ → Type 0
MarksRight k = plans.MarksRight k.rules.words.now k.rules.count k.ranks.now

abbrev pub NoneBelow : Prepared → Bounds → ℕ → Bool → Memory → Memory → Bool → Type 0
NoneBelow k = plans.NoneBelow k.rules.words.now k.rules.count k.ranks.now

abbrev pub OpenListed : Prepared → Bounds → Task → ℕ → Bounds → Bool → ℕ → List ℕ → List ℕ → Memory → Memory → List ℕ → List ℕ → ℕ → Type 0
OpenListed k x q = plans.OpenListed k.rules.words.now k.ranks.now x (sought k.rules.count q)

abbrev pub Rests : Prepared → Bounds → ℕ → Bool → List ℕ → Type 0
Rests k = plans.Rests k.rules.words.now k.rules.count k.ranks.now

abbrev pub SetListed : Prepared → Bounds → Task → ℕ → Bool → Bool → Type 0 → ℕ → List ℕ → List ℕ → Memory → Memory → List ℕ → List ℕ → ℕ → Type 0
SetListed k x q = plans.SetListed k.rules.words.now k.ranks.now x (sought k.rules.count q)
