use Rattle.write.proofs.TableLaws.{Going}
use Rattle.write.proofs.test_rows.Given as goal

abbrev pub invariant-loop-k : goal.invariant-loop-k
invariant-loop-k l = Going l.t l.s l.k l.from l.line
