use Rattle.std.proofs.Common.{arith, rules}
use Rattle.probe.proofs.Halves.{out-less, into_less}
use Rattle.probe.proofs.Attempts.{attempt-stopped, attempt-view, attempt-empty, attempt-out, attempt-into}
use Rattle.probe.proofs.+attempt.Goals as goal

pub returns-then-fuel-eq0 : goal.returns-then-fuel-eq0
returns-then-fuel-eq0 t c = attempt-stopped

pub attempt-requires : goal.attempt-requires
attempt-requires t c = let h = out-less c.visit.ensures _ _ _ c.in-Open.is _ c.out-o.ensures in (omega (arith, c.decreases), c.requires)

pub attempt-requires-in-Lacks : goal.attempt-requires-in-Lacks
attempt-requires-in-Lacks t c = let h = into_less c.visit.ensures _ _ _ c.in-Open.is _ c.into-p.ensures in (omega (arith, c.decreases), c.requires)

pub returns-in-View : goal.returns-in-View
returns-in-View t c = attempt-view c.visit.ensures _ (search rules)

pub returns-in-Empty : goal.returns-in-Empty
returns-in-Empty t c = attempt-empty c.visit.ensures _ (search rules)

pub returns-in-Has : goal.returns-in-Has
returns-in-Has t c = attempt-out c.visit.ensures _ _ _ c.in-Open.is _ _ _ c.out-o.ensures c.attempt.ensures (search rules)

pub returns-in-Stopped : goal.returns-in-Stopped
returns-in-Stopped t c = attempt-stopped

pub returns-in-Lacks : goal.returns-in-Lacks
returns-in-Lacks t c = attempt-into c.visit.ensures _ _ _ c.in-Open.is _ _ _ _ _ c.out-o.ensures c.attempt.ensures c.in-Lacks.is c.into-p.ensures c.attempt-in-Lacks.ensures
