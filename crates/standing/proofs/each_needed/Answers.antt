use borrow.Author.Rules.{rules}
use Rattle.standing.proofs.Below.{so-far-turn, so-far-lost, so-far-all}
use Rattle.standing.proofs.each_needed.Goals as goal

pub returns-then-not-unexceeded_at : goal.returns-then-not-unexceeded_at
returns-then-not-unexceeded_at c = so-far-lost _ _ _ _ _ _ _ _ _ c.loop-e.invariant _ _ c.unexceeded_at.ensures (search rules)

pub loop-e-preserved : goal.loop-e-preserved
loop-e-preserved c = so-far-turn _ _ _ _ _ _ _ _ _ c.loop-e.invariant _ _ c.unexceeded_at.ensures (search rules)

pub returns : goal.returns
returns c = so-far-all _ _ _ _ _ _ _ _ _ c.loop-e.invariant c.ranges.taken.fits (search rules)
