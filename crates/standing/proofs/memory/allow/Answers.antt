use Rattle.standing.proofs.Rows.{free-put}
use Rattle.standing.proofs.memory.allow.Goals as goal

pub returns : goal.returns
returns c = free-put _ _ _ _ _ _ _ _ c.put.ensures
