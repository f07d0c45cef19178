use Rattle.std.proofs.Common.{rules}
use Rattle.page.proofs.Statements.{number-at}
use Rattle.sifting.proofs.Sifting.{sift-open, sift-last, sift-full, sift-cut, sift-void, sift-narrower, sifting-next, sifting-all}
use Rattle.sifting.proofs.+settle_try_value.Goals as goal

pub settle-returns-then-left-eq0 : goal.settle-returns-then-left-eq0
settle-returns-then-left-eq0 t c = sift-last _ _ _ _ _ _ _ _ _ _ _ _ (search rules) c.finish.ensures

pub settle-loop-value-preserved : goal.settle-loop-value-preserved
settle-loop-value-preserved t c = sifting-next _ _ _ _ _ _ _ _ _ _ _ _ _ c.loop-value-test.true c.loop-value.invariant _ (number-at _ c.loop-value-test.true _) _ _ _ c.try_value-r.ensures

pub settle-returns : goal.settle-returns
settle-returns t c = sift-open _ _ _ _ _ _ _ _ _ _ _ _ c.if-left-eq0.false (sifting-all _ _ _ _ _ _ _ _ _ _ _ _ _ (search rules) c.loop-value.invariant)

pub try_value-returns-then-task-place : goal.try_value-returns-then-task-place
try_value-returns-then-task-place t c = sift-full _ _ _ _ _ _ _ _ _ _ c.requires.0.fits.place (search rules)

pub try_value-returns-then-not-within : goal.try_value-returns-then-not-within
try_value-returns-then-not-within t c = sift-void _ _ _ _ _ _ _ _ _ _ c.requires.0.fits.place _ c.branch_of.ensures _ c.in-Some.is _ c.lessened-r.ensures _ c.within.ensures (search rules)

pub try_value-returns-in-None : goal.try_value-returns-in-None
try_value-returns-in-None t c = sift-cut _ _ _ _ _ _ _ _ _ _ c.requires.0.fits.place _ c.branch_of.ensures (search rules)

pub try_value-returns-else-not-within : goal.try_value-returns-else-not-within
try_value-returns-else-not-within t c = sift-narrower _ _ _ _ _ _ _ _ _ _ c.requires.0.fits.place _ c.branch_of.ensures _ c.in-Some.is _ c.lessened-r.ensures _ _ _ _ _ c.settle.ensures
