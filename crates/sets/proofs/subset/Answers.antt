use Rattle.sets.proofs.Words.{subset-is}
use Rattle.sets.proofs.subset.Goals as goal

pub returns : goal.returns
returns c = subset-is _ _
