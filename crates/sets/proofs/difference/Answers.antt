use Rattle.sets.proofs.Words.{member-without}
use Rattle.sets.proofs.difference.Goals as goal

pub returns : goal.returns
returns c j = member-without j _ _
