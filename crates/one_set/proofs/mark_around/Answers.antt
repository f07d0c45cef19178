use Rattle.one_set.proofs.Plans.{range-marked}
use Rattle.one_set.proofs.mark_around.Goals as goal

pub returns : goal.returns
returns c = range-marked _ _ _ _ _ _ _ _ _ c.widened-s.ensures c.mark_viewless-earned.ensures
