use Rattle.std.proofs.Common.{rules}
use Rattle.superior.proofs.Lines.{taking-probed}
use Rattle.superior.proofs.taking_at.Goals as goal

pub returns : goal.returns
returns c = taking-probed _ _ _ _ _ _ _ c.one.ensures _ c.into-c.ensures _ c.ask.ensures (search rules)
