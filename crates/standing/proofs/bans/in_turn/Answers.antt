use Rattle.standing.proofs.Barring.{spares-turn}
use Rattle.standing.proofs.bans.in_turn.Goals as goal

pub returns-then-not-within : goal.returns-then-not-within
returns-then-not-within c = spares-turn _ _ _ _ _ _ _ _ c.loop.invariant c.by_bans-o.ensures c.propagate-r.ensures

pub loop-preserved : goal.loop-preserved
loop-preserved c = spares-turn _ _ _ _ _ _ _ _ c.loop.invariant c.by_bans-o.ensures c.propagate-r.ensures
