use Rattle.prepare.proofs.Roots.{root_is}
use Rattle.prepare.proofs.root.Goals as goal

pub returns : goal.returns
returns c = root_is _ _ _ c.up_to-taken.ensures c.up_to-all.ensures
