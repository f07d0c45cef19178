use Rattle.admissible.proofs.Subsets.{minimal-beneath}
use Rattle.admissible.proofs.minimal.Goals as goal

pub returns : goal.returns
returns c = minimal-beneath _ _ _ _ _ _ _ _ c.with_sets-b.ensures c.propagate-rest.ensures c.each_needed.ensures
