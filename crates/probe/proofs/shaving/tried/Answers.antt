use Rattle.probe.proofs.Attempts.{shave-none, shave-into, shave-out}
use Rattle.std.proofs.Common.{rules}
use Rattle.probe.proofs.shaving.tried.Goals as goal

pub returns-then-not-within-2 : goal.returns-then-not-within-2
returns-then-not-within-2 c = shave-into _ _ c.requires _ _ c.out.ensures c.into.ensures _ _ c.settled-o.ensures c.settled-p.ensures _ c.within-2.ensures (search rules)

pub returns-then-not-within-3 : goal.returns-then-not-within-3
returns-then-not-within-3 c = shave-out _ _ c.requires _ _ c.out.ensures c.into.ensures _ _ c.settled-o.ensures c.settled-p.ensures _ c.within-3.ensures (search rules)

pub returns : goal.returns
returns c = shave-none _ _ _ _

pub returns-then-not-within : goal.returns-then-not-within
returns-then-not-within c = shave-none _ _ _ _
