use Rattle.masks.proofs.Tests.{constraint-is}
use Rattle.masks.proofs.constraint.Goals as goal

pub returns : goal.returns
returns c = constraint-is _
