use Rattle.page.proofs.Ends.{gone-turn, gone-all, shut_at}
use Rattle.std.proofs.Common.{rules}
use Rattle.page.proofs.ahead.Goals as goal

pub loop-i-preserved : goal.loop-i-preserved
loop-i-preserved c = gone-turn _ _ _ _ _ (search rules) c.requires.0 (search rules) _ c.minus-x.ensures (shut_at _ _ c.if-free-i-eq1.false) c.loop-i.invariant _ c.value_at.ensures _ c.given-pair.ensures

pub returns : goal.returns
returns c = gone-all _ _ _ _ _ (search rules) c.loop-i.invariant
