use Rattle.least.proofs.Looks.{look-empty, look-full, look-less, look-end, look-open}
use borrow.Author.Rules.{rules}
use Rattle.least.proofs.seek.Goals as goal
use mathlib.Core.Path.{refl}

pub returns-then-not-within : goal.returns-then-not-within
returns-then-not-within c = look-empty _ _ _ c.lowered-y.ensures _ c.within.ensures (search rules)

pub returns-then-within : goal.returns-then-within
returns-then-within c = look-full _ _ _ c.lowered-y.ensures _ c.within.ensures (search rules) _ c.within-2.ensures (search rules)

pub returns-in_default : goal.returns-in_default
returns-in_default c = look-less _ _ _ c.lowered-y.ensures _ c.within.ensures (search rules) _ c.within-2.ensures (search rules) _ c.asking.ensures c.in_default.is

pub returns-then-apart : goal.returns-then-apart
returns-then-apart c = look-end _ _ _ c.lowered-y.ensures _ c.within.ensures (search rules) _ c.within-2.ensures (search rules) _ c.in-Some.ensures _ refl _ c.row_at-r.ensures _ c.apart.ensures (search rules)

pub returns : goal.returns
returns c = look-open _ _ _ c.lowered-y.ensures _ c.within.ensures (search rules) _ c.within-2.ensures (search rules) _ c.in-Some.ensures _ refl _ c.row_at-r.ensures _ c.apart.ensures _ _ c.meet.ensures (search rules) c.single.ensures
