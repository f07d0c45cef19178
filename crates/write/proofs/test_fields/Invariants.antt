use Rattle.read.proofs.FieldLaws.{part}
use Rattle.write.proofs.RowLaws.{Rest}
use Rattle.write.proofs.test_fields.Given as goal

abbrev pub invariant-loop-i : goal.invariant-loop-i
invariant-loop-i l = Rest l.t l.from (part l.x.from l.x.numbers) l.n l.m l.i l.seen
