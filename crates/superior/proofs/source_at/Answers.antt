use Rattle.std.proofs.Common.{arith, rules}
use Rattle.superior.proofs.Lines.{source-decides}
use Rattle.superior.proofs.source_at.Goals as goal

pub returns-then-among-a-ne0 : goal.returns-then-among-a-ne0
returns-then-among-a-ne0 c = source-decides _ _ _ _ _ _ _ _ (search rules) (search rules) (omega (arith, c.reach.type_inv)) c.reach.ensures
