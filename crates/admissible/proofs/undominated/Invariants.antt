use Rattle.admissible.proofs.Superiors.{UndominatedTo}
use Rattle.admissible.proofs.undominated.Given as goal

abbrev pub invariant-loop-a : goal.invariant-loop-a
invariant-loop-a l = UndominatedTo l.book.rules.words.now l.book.rules.count l.book.ranks.now l.root l.taken l.a
