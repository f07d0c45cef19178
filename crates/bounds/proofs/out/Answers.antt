use Rattle.bounds.proofs.Steps.{out-is}
use Rattle.bounds.proofs.out.Goals as goal

pub returns : goal.returns
returns c = out-is _ _ _ c.minus.ensures
