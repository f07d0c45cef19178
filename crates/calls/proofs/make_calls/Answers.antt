use native.Mathlib.Omega.{arith}
use mathlib.Core.Path.{refl}
use Rattle.calls.proofs.Calls.{makes_none, makes-more, one-most}
use Rattle.calls.proofs.make_calls.Goals as goal

pub loop-k-init : goal.loop-k-init
loop-k-init c = (omega arith, makes_none _ _ _ _ _ _ refl)

pub loop-k-preserved : goal.loop-k-preserved
loop-k-preserved c = (omega (arith, one-most _ _ _ _ _ _ _ _ _ _ c.one_call-r.ensures), makes-more _ _ _ _ _ _ _ _ _ _ _ _ c.loop-k.invariant.1 c.one_call-r.ensures)
