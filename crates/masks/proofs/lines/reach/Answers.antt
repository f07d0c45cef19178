use native.Mathlib.Omega.{arith}
use borrow.Author.Rules.{rules}
use Rattle.masks.proofs.Steps.{nothing_yet, larger, reached}
use Rattle.masks.proofs.lines.reach.Goals as goal

pub loop-o-init : goal.loop-o-init
loop-o-init c = nothing_yet _ _ _ _ _

pub loop-o-smaller : goal.loop-o-smaller
loop-o-smaller c = let l = larger _ _ _ _ _ _ _ c.pass-p.ensures (search rules) in omega (arith, c.pass-p.type_inv)

pub returns : goal.returns
returns c = reached _ _ _ _ _ _ _ c.loop-o.invariant c.pass-p.ensures (search rules)
