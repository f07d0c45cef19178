use borrow.Author.Rules.{rules}
use Rattle.entry.proofs.Leaves.{zeros-start, zeros-next, zeros-end}
use Rattle.entry.proofs.is_zero.Goals as goal

pub loop-b-init : goal.loop-b-init
loop-b-init c = zeros-start _

pub loop-b-preserved : goal.loop-b-preserved
loop-b-preserved c = zeros-next c.args.s.now c.loop-b.any c.loop-b.b-index (search rules) c.loop-b.invariant

pub returns : goal.returns
returns c = zeros-end c.args.s.now c.loop-b.any c.loop-b.b-index (search rules) c.loop-b.invariant
