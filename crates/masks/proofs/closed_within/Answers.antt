use native.Mathlib.Omega.{arith}
use borrow.Author.Count.{below_more}
use borrow.Author.Rules.{rules}
use borrow.Author.Tests.{not-false}
use Rattle.logic.proofs.Decide.{clash}
use Rattle.masks.proofs.Booleans.{granted}
use Rattle.masks.proofs.closed_within.Goals as goal

pub returns-then-d-v : goal.returns-then-d-v
returns-then-d-v c = λ e. absurd (clash e)

pub returns-then-not-within : goal.returns-then-not-within
returns-then-not-within c = λ e. absurd (clash e)

pub returns-then-not-closed_at : goal.returns-then-not-closed_at
returns-then-not-closed_at c = λ e. absurd (clash e)

pub loop-k-preserved : goal.loop-k-preserved
loop-k-preserved c = let t = c.loop-k-test.true in below_more _ _ c.loop-k.invariant (rw c.masks_at.ensures at (c.closed_at.ensures (not-false _ (search rules))))

pub returns : goal.returns
returns c = λ e. (search rules, granted c.within.ensures (search rules), λ k l. c.loop-k.invariant k (omega (arith, c.loop-k-test.false)))
