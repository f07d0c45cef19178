use Rattle.superior.proofs.Lines.{NoneTo}
use Rattle.superior.proofs.taking.Given as goal

abbrev pub invariant-loop-a : goal.invariant-loop-a
invariant-loop-a l = NoneTo l.book.rules.words.now l.book.rules.count l.book.ranks.now l.rest.bounds l.s l.a
