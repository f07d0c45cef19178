use Rattle.standing.proofs.Domination.{ranked-is}
use Rattle.standing.proofs.ranking.Goals as goal

pub returns : goal.returns
returns c = ranked-is _ _ _ _ _ c.lines_in.ensures c.mates.ensures
