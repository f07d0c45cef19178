-- What is said of rules, ranks and index, said of a prepared book, which holds them.
use Rattle.masks.specs.declared.Bounds.{Bounds}
use Rattle.probe.specs.declared.Node.{Node}
use Rattle.probe.specs.declared.Outcome.{Outcome}
use Rattle.queue.specs.declared.Prepared.{Prepared}
use Rattle.sets.specs.declared.Pair.{Pair}
use Rattle.std.specs.Prelude.{Option}
use Rattle.probe.specs.Probes as probes

abbrev pub Attempted : Prepared → Bounds → Outcome → Type 0
Attempted k = probes.Attempted k.rules.words.now k.rules.count k.ranks.now

abbrev pub Opened : Prepared → Bounds → Node → Type 0
Opened k = probes.Opened k.rules.words.now k.rules.count k.ranks.now

abbrev pub Probed : Prepared → Bounds → Option Pair → Type 0
Probed k = probes.Probed k.rules.words.now k.rules.count k.ranks.now
