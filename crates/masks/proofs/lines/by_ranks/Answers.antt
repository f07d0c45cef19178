use native.Mathlib.Omega.{arith}
use borrow.Author.Rules.{rules}
use Rattle.masks.proofs.Steps.{ranks-start, ranks-shifted, ranks-all}
use Rattle.masks.proofs.lines.by_ranks.Goals as goal

pub loop-a-init : goal.loop-a-init
loop-a-init c = ranks-start _ _ _

pub loop-a-preserved : goal.loop-a-preserved
loop-a-preserved c = ranks-shifted _ _ _ _ _ _ (search rules) (search rules) c.loop-a.invariant c.through-p.ensures

pub returns : goal.returns
returns c = ranks-all _ _ _ _ _ c.loop-a.auto.a-end (omega arith) c.loop-a.invariant
