use borrow.Author.Rules.{rules}
use Rattle.masks.proofs.Closures.{pass-start, pass-turn, pass-over}
use Rattle.masks.proofs.pass.Goals as goal

pub loop-k-init : goal.loop-k-init
loop-k-init c = pass-start _ _ _

pub loop-k-preserved : goal.loop-k-preserved
loop-k-preserved c = pass-turn _ c.loop-k.k _ _ _ _ _ c.loop-k.invariant c.masks_at.ensures c.fire-d.ensures

pub returns : goal.returns
returns c = pass-over _ c.loop-k.k _ _ _ _ (search rules) (search rules) c.loop-k.invariant
