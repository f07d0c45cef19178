use mathlib.Core.Path.{refl}
use native.Mathlib.Omega.{arith}
use borrow.Author.Rules.{rules}
use Rattle.standing.proofs.Halving.{told-view, told-empty, told-void, told-out, told-into, less-out, less-into, opened-anew}
use Rattle.standing.proofs.+search.Goals as goal

pub returns-then-not-within : goal.returns-then-not-within
returns-then-not-within t c = told-void _ _ _ _ _ _ _ c.visit-x.ensures _ _ _ c.in-Open.is _ c.unbanned-r.ensures _ c.within.ensures (search rules)

pub search-requires : goal.search-requires
search-requires t c = let h = less-out _ _ _ c.args.root _ _ _ (opened-anew _ _ _ _ _ _ _ c.unbanned-r.ensures _ c.visit-x.ensures _ _ _ c.in-Open.is c.asked-m.ensures) _ _ _ refl _ c.unbanned-r.ensures _ c.out-o.ensures in (omega (arith, c.decreases), c.requires)

pub returns-then-search : goal.returns-then-search
returns-then-search t c = told-out _ _ _ _ _ _ _ (opened-anew _ _ _ _ _ _ _ c.unbanned-r.ensures _ c.visit-x.ensures _ _ _ c.in-Open.is c.asked-m.ensures) _ _ _ refl _ c.unbanned-r.ensures _ c.out-o.ensures _ _ c.search.ensures (search rules)

pub search-requires-in-Open : goal.search-requires-in-Open
search-requires-in-Open t c = let h = less-into _ _ _ c.args.root _ _ _ (opened-anew _ _ _ _ _ _ _ c.unbanned-r.ensures _ c.visit-x.ensures _ _ _ c.in-Open.is c.asked-m.ensures) _ _ _ refl _ c.unbanned-r.ensures _ c.into-p.ensures in (omega (arith, c.decreases), c.requires)

pub returns-in-View : goal.returns-in-View
returns-in-View t c = told-view _ _ _ _ _ _ _ c.visit-x.ensures _ (search rules) _ _ c.stands.ensures

pub returns-in-Empty : goal.returns-in-Empty
returns-in-Empty t c = told-empty _ _ _ _ _ _ _ c.visit-x.ensures (search rules)

pub returns-else-search : goal.returns-else-search
returns-else-search t c = told-into _ _ _ _ _ _ _ (opened-anew _ _ _ _ _ _ _ c.unbanned-r.ensures _ c.visit-x.ensures _ _ _ c.in-Open.is c.asked-m.ensures) _ _ _ refl _ c.unbanned-r.ensures _ c.out-o.ensures _ _ c.search.ensures (search rules) _ c.into-p.ensures _ _ c.search-in-Open.ensures
