use Rattle.one_set.proofs.Plans.{range-marked}
use Rattle.one_set.proofs.mark_shaven.Goals as goal

pub returns-then-earned-lt-SCANT : goal.returns-then-earned-lt-SCANT
returns-then-earned-lt-SCANT c = range-marked _ _ _ _ _ _ _ _ _ c.shaven-s.ensures c.mark_viewless-earned.ensures

pub returns-else-earned-lt-SCANT : goal.returns-else-earned-lt-SCANT
returns-else-earned-lt-SCANT c = range-marked _ _ _ _ _ _ _ _ _ c.shaven-s.ensures c.mark_viewless-earned.ensures
