use Rattle.bounds.proofs.Steps.{keeps_same, keeps_then, by-rules, propagated}
use Rattle.queue.proofs.propagate.Goals as goal

pub loop-init : goal.loop-init
loop-init c = keeps_same _

pub returns-then-not-within : goal.returns-then-not-within
returns-then-not-within c = propagated _ _ _ _ _ _ (keeps_then c.loop.invariant (by-rules c.run-a.ensures)) c.narrowed.ensures

pub returns-then-eq : goal.returns-then-eq
returns-then-eq c = propagated _ _ _ _ _ _ (keeps_then c.loop.invariant (keeps_then (by-rules c.run-a.ensures) c.whole-o.ensures)) c.narrowed-then-eq.ensures

pub loop-preserved : goal.loop-preserved
loop-preserved c = keeps_then c.loop.invariant (keeps_then (by-rules c.run-a.ensures) c.whole-o.ensures)

pub returns : goal.returns
returns c = propagated _ _ _ _ _ _ c.loop.invariant c.narrowed-2.ensures
