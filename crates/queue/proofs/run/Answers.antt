use Rattle.bounds.proofs.Steps.{keeps_same, keeps_then, by-coherence}
use Rattle.queue.proofs.run.Goals as goal

pub loop-init : goal.loop-init
loop-init c = keeps_same _

pub returns-then-not-within : goal.returns-then-not-within
returns-then-not-within c = keeps_then c.loop.invariant (keeps_then c.turn.ensures (by-coherence c.moved-q.ensures))

pub loop-preserved : goal.loop-preserved
loop-preserved c = keeps_then c.loop.invariant (keeps_then c.turn.ensures (by-coherence c.moved-q.ensures))
