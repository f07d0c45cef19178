use Rattle.std.proofs.Common.{rules}
use Rattle.sets.proofs.Lowest.{low-some}
use Rattle.sets.proofs.first.Goals as goal

pub returns : goal.returns
returns c = (low-some _ _ (search rules) (search rules) c.low.ensures.0 c.low.ensures.1, c.low.ensures.1)
