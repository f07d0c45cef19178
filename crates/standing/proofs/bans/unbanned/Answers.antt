use Rattle.standing.proofs.Barring.{unbanned-is}
use Rattle.standing.proofs.bans.unbanned.Goals as goal

pub returns : goal.returns
returns c = unbanned-is _ _ _ _ _ _ _ c.in_turn-r.ensures c.narrowed.ensures
