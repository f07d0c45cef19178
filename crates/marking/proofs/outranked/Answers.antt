use Rattle.std.proofs.Common.{arith}
use Rattle.marking.proofs.Marks.{none-upto, upto-more, upto_all}
use Rattle.marking.proofs.outranked.Goals as goal

pub loop-a-init : goal.loop-a-init
loop-a-init c = none-upto _ _

pub loop-a-preserved : goal.loop-a-preserved
loop-a-preserved c = upto-more _ _ _ _ _ c.loop-a.invariant c.with_rank-b.ensures

pub returns : goal.returns
returns c = upto_all _ _ _ _ (omega arith) c.loop-a.invariant
