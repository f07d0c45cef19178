use Rattle.standing.proofs.Barring.{leaves-turn}
use Rattle.standing.proofs.bans.by_bans.Goals as goal

pub returns-then-not-within : goal.returns-then-not-within
returns-then-not-within c = leaves-turn _ _ _ _ _ _ _ c.lines_in-sure.ensures c.loop-ban-test.true _ _ c.loop-ban.invariant c.by_ban-o.ensures

pub loop-ban-preserved : goal.loop-ban-preserved
loop-ban-preserved c = leaves-turn _ _ _ _ _ _ _ c.lines_in-sure.ensures c.loop-ban-test.true _ _ c.loop-ban.invariant c.by_ban-o.ensures
