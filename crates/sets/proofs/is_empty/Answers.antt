use Rattle.sets.proofs.Words.{empty-is}
use Rattle.sets.proofs.is_empty.Goals as goal

pub returns : goal.returns
returns c = empty-is _
