use Rattle.std.proofs.Common.{arith}
use Rattle.masks.proofs.Steps.{passing-with, passing-without}
use Rattle.masks.proofs.lines.passing.Goals as goal
use Rattle.masks.proofs.lines.passing.Goals.{then-test, else-test}

pub loop-j-preserved : goal.loop-j-preserved
loop-j-preserved g c = elim c.if-test.branch [
  | then-test w ↦ rw w.m-is (passing-with _ _ _ (omega arith) c.loop-j.invariant w.if-test.ensures)
  | else-test w ↦ rw w.m-is (passing-without _ _ _ (omega arith) c.loop-j.invariant w.if-test.ensures)
]
