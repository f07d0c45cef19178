use borrow.Author.Rules.{rules}
use native.Mathlib.Omega.{arith}
use Rattle.probe.proofs.Halves.{out-less, into_less}
use Rattle.few.proofs.Gathering.{store-again, gathered-view, gathered-empty, gathered-both}
use Rattle.few.proofs.+gather.Goals as goal

pub gather-j-requires : goal.gather-j-requires
gather-j-requires t c = let h = out-less c.visit-x.ensures _ _ _ c.in-Open.is _ c.out-o.ensures in (omega (arith, c.decreases), (c.requires.0, c.requires.1))

pub gather-requires : goal.gather-requires
gather-requires t c = let h = into_less c.visit-x.ensures _ _ _ c.in-Open.is _ c.into-p.ensures in (omega (arith, c.decreases), (store-again _ _ _ c.requires.0 c.gather-j.auto.store, c.gather-j.ensures.few))

pub returns-in-View : goal.returns-in-View
returns-in-View t c = gathered-view _ _ _ _ _ _ _ _ _ c.visit-x.ensures (search rules) _ (search rules) _ c.put.ensures

pub returns-in-Empty : goal.returns-in-Empty
returns-in-Empty t c = gathered-empty _ _ _ _ _ _ _ _ _ c.visit-x.ensures (search rules) (search rules)

pub returns-in-Open : goal.returns-in-Open
returns-in-Open t c = gathered-both _ _ _ _ _ _ _ _ _ c.visit-x.ensures _ _ _ c.in-Open.is _ _ c.out-o.ensures c.into-p.ensures _ _ _ _ c.gather-j.ensures c.gather.ensures
