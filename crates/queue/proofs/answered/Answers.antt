use Rattle.queue.proofs.Turns.{asking-same, asking-kept}
use Rattle.queue.proofs.answered.Goals as goal

pub returns-in_default : goal.returns-in_default
returns-in_default c = asking-same _ _ _ _ c.asking.ensures

pub returns-then-ne : goal.returns-then-ne
returns-then-ne c = asking-kept _ _ _ _ _ c.support-o.ensures c.asking-then-ne.ensures

pub returns : goal.returns
returns c = asking-same _ _ _ _ c.asking-2.ensures
