use native.Mathlib.Omega.{arith}
use Rattle.bounds.proofs.Steps.{keeps_same, levels-turn}
use Rattle.bounds.proofs.levels.Goals as goal

pub loop-a-init : goal.loop-a-init
loop-a-init c = keeps_same _

pub loop-a-preserved : goal.loop-a-preserved
loop-a-preserved c = levels-turn _ c.loop-a.a _ _ _ (omega arith) c.loop-a.invariant c.level_step-o.ensures
