use Rattle.book.proofs.Counts.{count-is}
use Rattle.book.proofs.count_of.Goals as goal

pub returns : goal.returns
returns c = count-is _ _ _ c.counts_of.ensures
