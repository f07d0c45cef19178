use native.Mathlib.Omega.{arith}
use lib.ListN.{length-set}
use mathlib.Core.Path.{refl, ap}
use mathlib.Core.Bool.{not}
use Rattle.sets.proofs.Pairs.{equal-not}
use Rattle.queue.proofs.Chains.{chained-none, chained-not, chained-one}
use borrow.Author.Rules.{rules}
use Rattle.queue.proofs.heads.chain.Goals as goal

pub returns-then-constraint : goal.returns-then-constraint
returns-then-constraint c = chained-none _ _ _ _ c.constraint.ensures (search rules)

pub returns-in_default : goal.returns-in_default
returns-in_default c = chained-not _ _ _ _

pub returns-then-ne : goal.returns-then-ne
returns-then-ne c = chained-not _ _ _ _

pub bounds-index-at-2 : goal.bounds-index-at-2
bounds-index-at-2 c = rw (length-set _ _ _, c.requires.1) (omega (arith, c.side-s.ensures))

pub returns : goal.returns
returns c = rw c.number.ensures (chained-one _ _ _ _ _ _ _ _ c.side-s.ensures (search rules) c.one.ensures (equal-not c.ne.ensures) (ap not c.if-ne.false) refl)
