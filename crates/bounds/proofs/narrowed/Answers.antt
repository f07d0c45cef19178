use Rattle.bounds.proofs.Steps.{narrow-is}
use Rattle.bounds.proofs.narrowed.Goals as goal

pub returns : goal.returns
returns c = narrow-is _ _ _ _ c.join.ensures c.meet.ensures
