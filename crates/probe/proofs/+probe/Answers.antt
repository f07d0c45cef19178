use Rattle.std.proofs.Common.{arith, rules}
use Rattle.probe.proofs.Halves.{out-less, into_less, probed-view, probed-empty, probed-out, probed-into}
use Rattle.probe.proofs.+probe.Goals as goal

pub probe-requires : goal.probe-requires
probe-requires t c = let h = out-less c.visit.ensures _ _ _ c.in-Open.is _ c.out-o.ensures in (omega (arith, c.decreases), tt)

pub probe-requires-in-Open : goal.probe-requires-in-Open
probe-requires-in-Open t c = let h = into_less c.visit.ensures _ _ _ c.in-Open.is _ c.into-p.ensures in (omega (arith, c.decreases), tt)

pub returns-in-View : goal.returns-in-View
returns-in-View t c = probed-view c.visit.ensures _ (search rules)

pub returns-in-Empty : goal.returns-in-Empty
returns-in-Empty t c = probed-empty c.visit.ensures (search rules)

pub returns-in-Some : goal.returns-in-Some
returns-in-Some t c = probed-out c.visit.ensures _ _ _ c.in-Open.is _ _ _ c.out-o.ensures c.probe.ensures c.in-Some.is

pub returns-in_default : goal.returns-in_default
returns-in_default t c = probed-into c.visit.ensures _ _ _ c.in-Open.is _ _ _ _ c.out-o.ensures c.probe.ensures c.in_default.is c.into-p.ensures c.probe-in-Open.ensures
