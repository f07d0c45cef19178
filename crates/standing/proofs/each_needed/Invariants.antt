use Rattle.standing.proofs.Below.{SoFar}
use Rattle.standing.proofs.each_needed.Given as goal

abbrev pub invariant-loop-e : goal.invariant-loop-e
invariant-loop-e l = SoFar l.book.rules.words.now l.book.rules.count l.book.ranks.now l.root l.rest.bounds l.initial.mem l.taken l.e l.mem
