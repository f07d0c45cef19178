use native.Mathlib.Omega.{arith}
use Rattle.masks.proofs.Steps.{lines_start, lines-all}
use Rattle.masks.proofs.lines.by_lines.Goals as goal

pub loop-j-init : goal.loop-j-init
loop-j-init c = lines_start _ _ _ _ _

pub loop-j-preserved : goal.loop-j-preserved
loop-j-preserved c = c.by_line-p.ensures.next _ c.loop-j.invariant

pub returns : goal.returns
returns c = lines-all _ _ _ _ _ _ _ c.loop-j.auto.j-end (omega arith) c.loop-j.invariant
