-- What is said of rules, ranks and index, said of a prepared book, which holds them.
use Rattle.masks.specs.declared.Bounds.{Bounds}
use Rattle.queue.specs.declared.Prepared.{Prepared}
use Rattle.sets.specs.declared.Pair.{Pair}
use Rattle.bounds.specs.Sound as sound
use Rattle.masks.specs.Views as views

abbrev pub MaskView : Prepared → Pair → Type 0
MaskView k = views.MaskView k.rules.words.now k.rules.count k.ranks.now

abbrev pub Propagated : Prepared → Bounds → Bounds → Type 0
Propagated k = sound.Propagated k.rules.words.now k.rules.count k.ranks.now
