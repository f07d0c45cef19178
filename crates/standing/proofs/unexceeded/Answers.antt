use Rattle.standing.proofs.Below.{beneath}
use Rattle.standing.proofs.unexceeded.Goals as goal

pub returns : goal.returns
returns c = beneath _ _ _ _ _ _ _ _ _ _ c.with_sets-b.ensures c.propagate-rest.ensures c.each_needed.ensures
