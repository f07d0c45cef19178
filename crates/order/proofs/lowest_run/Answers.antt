use Rattle.order.proofs.Following.{low_word, carried-is, carried-fits, run}
use Rattle.order.proofs.lowest_run.Goals as goal

pub overflow_shl-carried : goal.overflow_shl-carried
overflow_shl-carried c = low_word _ _ _ c.requires.0 c.requires.1 c.requires.2 c.low-from.ensures.0 c.low-from.ensures.1

pub overflow_add-carried : goal.overflow_add-carried
overflow_add-carried c = record { fits = carried-fits _ _ _ c.requires.0 c.requires.1 c.requires.2 c.low-from.ensures.0 c.low-from.ensures.1 }

pub returns : goal.returns
returns c = let p = c.requires in let l = c.low-from.ensures in run _ _ _ p.0 p.1 p.2 l.0 l.1 _ _ (carried-is _ _ _ p.0 p.1 p.2 l.0 l.1) c.low.ensures.0 c.low.ensures.1
