use Rattle.bounds.proofs.Steps.{keeps_same, keeps_then}
use Rattle.least.proofs.Steps.{narrowed}
use Rattle.least.proofs.lowered.Goals as goal

pub loop-init : goal.loop-init
loop-init c = keeps_same _

pub returns-then-eq : goal.returns-then-eq
returns-then-eq c = narrowed _ _ _ (keeps_then c.loop.invariant c.pass-z.ensures) c.narrowed.ensures

pub returns-then-not-within : goal.returns-then-not-within
returns-then-not-within c = narrowed _ _ _ (keeps_then c.loop.invariant c.pass-z.ensures) c.narrowed-then-not-within.ensures

pub loop-preserved : goal.loop-preserved
loop-preserved c = keeps_then c.loop.invariant c.pass-z.ensures

pub returns : goal.returns
returns c = narrowed _ _ _ c.loop.invariant c.narrowed-2.ensures
