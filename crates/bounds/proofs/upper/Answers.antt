use Rattle.bounds.proofs.Steps.{upper-bound}
use Rattle.bounds.proofs.upper.Goals as goal

pub returns : goal.returns
returns c = upper-bound _ _ _ _ _ c.closure.ensures c.meet.ensures
