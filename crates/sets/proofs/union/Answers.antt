use Rattle.sets.proofs.Words.{member-or}
use Rattle.sets.proofs.union.Goals as goal

pub returns : goal.returns
returns c j = member-or j _ _
