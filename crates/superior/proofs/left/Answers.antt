use Rattle.superior.proofs.Lines.{left_is}
use Rattle.superior.proofs.left.Goals as goal

pub returns : goal.returns
returns c = left_is _ _ _ _ _ _ _ c.out-c.ensures c.propagate.ensures
