use mathlib.Core.Path.{refl}
use native.Mathlib.Omega.{arith}
use borrow.Author.Rules.{rules}
use Rattle.standing.proofs.Attempting.{tried-fallen, tried-empty, tried-void, tried-out, tried-into}
use Rattle.standing.proofs.Halving.{less-out, less-into, opened-anew}
use Rattle.standing.proofs.+attempt.Goals as goal

pub returns-then-not-within : goal.returns-then-not-within
returns-then-not-within t c = tried-void _ _ _ _ _ _ _ c.visit-x.ensures _ _ _ c.in-Open.is _ c.unbanned-r.ensures _ c.within.ensures (search rules) _

pub attempt-a-requires : goal.attempt-a-requires
attempt-a-requires t c = let h = less-out _ _ _ c.args.root _ _ _ (opened-anew _ _ _ _ _ _ _ c.unbanned-r.ensures _ c.visit-x.ensures _ _ _ c.in-Open.is c.asked-m.ensures) _ _ _ refl _ c.unbanned-r.ensures _ c.out-o.ensures in (omega (arith, c.decreases), c.requires)

pub attempt-requires : goal.attempt-requires
attempt-requires t c = let h = less-into _ _ _ c.args.root _ _ _ (opened-anew _ _ _ _ _ _ _ c.unbanned-r.ensures _ c.visit-x.ensures _ _ _ c.in-Open.is c.asked-m.ensures) _ _ _ refl _ c.unbanned-r.ensures _ c.into-p.ensures in (omega (arith, c.decreases), c.requires)

pub returns-else-stands : goal.returns-else-stands
returns-else-stands t c = tried-fallen _ _ _ _ _ _ _ c.visit-x.ensures _ (search rules) _ _ c.stands.ensures (search rules) _

pub returns-in-Empty : goal.returns-in-Empty
returns-in-Empty t c = tried-empty _ _ _ _ _ _ _ c.visit-x.ensures (search rules) _

pub returns-in-Has : goal.returns-in-Has
returns-in-Has t c = tried-out _ _ _ _ _ _ _ (opened-anew _ _ _ _ _ _ _ c.unbanned-r.ensures _ c.visit-x.ensures _ _ _ c.in-Open.is c.asked-m.ensures) _ _ _ refl _ c.unbanned-r.ensures _ c.out-o.ensures _ _ c.attempt-a.ensures _ (search rules)

pub returns-in-Lacks : goal.returns-in-Lacks
returns-in-Lacks t c = tried-into _ _ _ _ _ _ _ (opened-anew _ _ _ _ _ _ _ c.unbanned-r.ensures _ c.visit-x.ensures _ _ _ c.in-Open.is c.asked-m.ensures) _ _ _ refl _ c.unbanned-r.ensures _ c.out-o.ensures _ _ c.attempt-a.ensures _ c.in-Lacks.is _ c.into-p.ensures _ _ c.attempt.ensures
