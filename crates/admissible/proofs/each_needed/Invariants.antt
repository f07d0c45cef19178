use Rattle.admissible.proofs.Subsets.{MinimalTo}
use Rattle.admissible.proofs.each_needed.Given as goal

abbrev pub invariant-loop-e : goal.invariant-loop-e
invariant-loop-e l = MinimalTo l.book.rules.words.now l.book.rules.count l.book.ranks.now l.root l.taken l.e
