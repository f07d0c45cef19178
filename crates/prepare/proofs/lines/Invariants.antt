use Rattle.meaning.specs.Meant.{book_of}
use Rattle.prepare.specs.Ranking.{LinesTo}
use Rattle.prepare.proofs.lines.Given as goal

abbrev pub invariant-loop-a : goal.invariant-loop-a
invariant-loop-a l = LinesTo (book_of l.shape l.rows).preferences l.ranks l.a
