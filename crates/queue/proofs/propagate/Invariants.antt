use Rattle.masks.specs.Views.{MaskView}
use Rattle.bounds.specs.Sound.{Keeps}
use Rattle.queue.proofs.propagate.Given as goal

abbrev pub invariant-loop : goal.invariant-loop
invariant-loop l = Keeps (MaskView l.book.rules.words.now l.book.rules.count l.book.ranks.now) l.b l.q.bounds
