use Rattle.queue.proofs.Rows.{heads-put}
use Rattle.queue.proofs.heads.put_heads.Goals as goal

pub returns : goal.returns
returns c = heads-put _ _ _ _ _ c.put.ensures c.put-2.ensures
