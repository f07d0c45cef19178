use Rattle.sets.proofs.Pairs.{apart-is}
use Rattle.sets.proofs.apart.Goals as goal

pub returns : goal.returns
returns c = apart-is _ _
