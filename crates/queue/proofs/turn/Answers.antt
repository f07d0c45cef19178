use Rattle.bounds.proofs.Steps.{keeps_then}
use Rattle.queue.proofs.turn.Goals as goal

pub returns : goal.returns
returns c = keeps_then c.stepped-p.ensures c.answered.ensures
