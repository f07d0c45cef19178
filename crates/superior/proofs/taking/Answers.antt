use Rattle.std.proofs.Common.{rules}
use Rattle.superior.proofs.Lines.{none-turn, taking-found}
use Rattle.superior.proofs.taking.Goals as goal

pub returns-in-Some : goal.returns-in-Some
returns-in-Some c = taking-found _ _ _ _ _ _ _ c.taking_at.ensures _ (search rules)

pub loop-a-preserved : goal.loop-a-preserved
loop-a-preserved c = none-turn _ _ _ _ _ _ _ c.taking_at.ensures (search rules) c.loop-a.invariant
