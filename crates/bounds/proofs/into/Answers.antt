use Rattle.bounds.proofs.Steps.{into-is}
use Rattle.bounds.proofs.into.Goals as goal

pub returns : goal.returns
returns c = into-is _ _ _ c.join.ensures
