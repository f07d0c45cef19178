use Rattle.ranges.specs.Ranges.{Wider}
use Rattle.ranges.proofs.all_freed.Given as goal

abbrev pub invariant-loop-e : goal.invariant-loop-e
invariant-loop-e l = Wider l.book.rules.words.now l.book.rules.count l.book.ranks.now l.root l.initial.r l.r
