use native.Mathlib.Omega.{arith}
use Rattle.prepare.proofs.Ranking.{closed-turn}
use Rattle.prepare.proofs.close.Goals as goal

pub loop-d-preserved : goal.loop-d-preserved
loop-d-preserved c = let q = c.loop-d.invariant.same in closed-turn _ _ _ _ _ c.loop-d.invariant c.close_through.ensures (omega arith) (omega arith)
