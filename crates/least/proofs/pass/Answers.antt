use native.Mathlib.Omega.{arith}
use Rattle.bounds.proofs.Steps.{keeps_same, keeps_then}
use Rattle.least.proofs.Steps.{by_row}
use Rattle.least.proofs.pass.Goals as goal

pub loop-k-init : goal.loop-k-init
loop-k-init c = keeps_same _

pub loop-k-preserved : goal.loop-k-preserved
loop-k-preserved c = keeps_then c.loop-k.invariant (by_row c.loop-k.k _ (omega arith) c.row_at.ensures c.step-y.ensures)
