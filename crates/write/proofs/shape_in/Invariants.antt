use Rattle.write.proofs.TableLaws.{Counting}
use Rattle.write.proofs.shape_in.Given as goal

abbrev pub invariant-loop-k : goal.invariant-loop-k
invariant-loop-k l = Counting l.t l.counts l.k
