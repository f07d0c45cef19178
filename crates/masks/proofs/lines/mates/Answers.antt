use native.Mathlib.Omega.{arith}
use Rattle.masks.proofs.Steps.{mates-none, mates-all}
use Rattle.masks.proofs.lines.mates.Goals as goal

pub loop-i-init : goal.loop-i-init
loop-i-init c = mates-none _ _ _

pub returns : goal.returns
returns c = mates-all _ _ _ _ _ c.loop-i.auto.i-end (omega arith) c.loop-i.invariant
