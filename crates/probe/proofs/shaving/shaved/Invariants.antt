use Rattle.bounds.specs.Sound.{Propagated}
use Rattle.probe.proofs.shaving.shaved.Given as goal

abbrev pub invariant-loop-part : goal.invariant-loop-part
invariant-loop-part l = Propagated l.book.rules.words.now l.book.rules.count l.book.ranks.now l.initial.r.bounds l.r.bounds

abbrev pub invariant-loop-place : goal.invariant-loop-place
invariant-loop-place l = Propagated l.book.rules.words.now l.book.rules.count l.book.ranks.now l.fn.rest.bounds l.r.bounds
