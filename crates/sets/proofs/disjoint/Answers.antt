use Rattle.sets.proofs.Words.{separate-is}
use Rattle.sets.proofs.disjoint.Goals as goal

pub returns : goal.returns
returns c = separate-is _ _
