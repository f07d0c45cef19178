use borrow.Author.Rules.{rules}
use Rattle.standing.proofs.Barring.{shut-turn}
use Rattle.standing.proofs.bans.shut.Goals as goal

pub loop-j-preserved : goal.loop-j-preserved
loop-j-preserved c = shut-turn _ _ _ _ _ _ _ _ _ (search rules) c.loop-j.invariant c.shut_at-o.ensures
