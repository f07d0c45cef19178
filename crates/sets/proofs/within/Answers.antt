use Rattle.sets.proofs.Pairs.{within-is}
use Rattle.sets.proofs.within.Goals as goal

pub returns : goal.returns
returns c = within-is _ _
