use Rattle.std.proofs.Common.{rules}
use Rattle.page.proofs.Ends.{settle-ahead}
use Rattle.page.proofs.Statements.{number-at}
use Rattle.page.proofs.Search.{settle-open, settle-last, one-full, one-cut, one-open, trying-next, trying-all}
use Rattle.page.proofs.+settle_try_value.Goals as goal

pub settle-returns-then-a-eq0 : goal.settle-returns-then-a-eq0
settle-returns-then-a-eq0 t c = settle-ahead _ _ _ _ _ c.ahead-a.ensures _ _ _ _ _ _ (settle-last _ _ _ _ _ _ _ _ c.if-a-eq0.true c.finish.ensures)

pub try_value-returns-then-task-place : goal.try_value-returns-then-task-place
try_value-returns-then-task-place t c = one-full _ _ _ _ _ _ _ c.requires.0.fits.place (search rules)

pub try_value-returns-in-None : goal.try_value-returns-in-None
try_value-returns-in-None t c =
    one-cut _ _ _ _ _ _ _ c.requires.0.fits.place _ _ (λ v x. x) _ c.branch_of.ensures (search rules)

pub try_value-returns-in-Some : goal.try_value-returns-in-Some
try_value-returns-in-Some t c =
    one-open _ _ _ _ _ _ _ c.requires.0.fits.place _ _ (λ v x. x) _ c.branch_of.ensures _ (search rules) _ _ c.settle.ensures

pub settle-loop-value-preserved : goal.settle-loop-value-preserved
settle-loop-value-preserved t c = trying-next _ _ _ _ _ _ _ _ _ c.loop-value-test.true c.loop-value.invariant _ (number-at _ c.loop-value-test.true _) _ _ c.try_value-r.ensures

pub settle-returns : goal.settle-returns
settle-returns t c = settle-ahead _ _ _ _ _ c.ahead-a.ensures _ _ _ _ _ _ (settle-open _ _ _ _ _ _ _ _ c.if-a-eq0.false (trying-all _ _ _ _ _ _ _ _ _ (search rules) c.loop-value.invariant))
