use Rattle.std.proofs.Common.{arith}
use Rattle.standing.proofs.Domination.{crosses-is}
use Rattle.standing.proofs.memory.crosses.Goals as goal

pub returns-then-t-ne0 : goal.returns-then-t-ne0
returns-then-t-ne0 c = crosses-is _ _ _ _ _ _ _ (omega (arith, c.reach.type_inv)) c.reach.ensures
