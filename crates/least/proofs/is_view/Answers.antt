use Rattle.least.proofs.Laws.{view-clash, view-level, view-crossed, view-shrinks, view-rules, view-reached, view-founded-is}
use Rattle.masks.proofs.Booleans.{granted}
use borrow.Author.Rules.{rules}
use Rattle.least.proofs.is_view.Goals as goal
use mathlib.Core.Path.{refl}
use Rattle.sets.proofs.Pairs.{equal-is}

pub returns-then-held-denied-ne0 : goal.returns-then-held-denied-ne0
returns-then-held-denied-ne0 c = view-clash _ _ _ _ (search rules)

pub returns-then-not-level : goal.returns-then-not-level
returns-then-not-level c = view-level _ _ _ _ _ c.level.ensures (search rules)

pub returns-then-not-uncrossed : goal.returns-then-not-uncrossed
returns-then-not-uncrossed c = view-crossed _ _ _ _ _ c.uncrossed.ensures (search rules)

pub returns-in_default : goal.returns-in_default
returns-in_default c = view-rules _ _ _ _ _ c.sweep.ensures _ c.in_default.is

pub returns-then-eq : goal.returns-then-eq
returns-then-eq c = view-reached _ _ _ _ _ c.in-Ok.ensures _ (search rules) c.level.ensures (search rules) (granted c.uncrossed.ensures (search rules)) _ refl _ (c.in-Ok.ensures.below _ refl) _ (equal-is c.eq.ensures) (search rules)

pub grown-d-requires : goal.grown-d-requires
grown-d-requires c = c.in-Ok.ensures.below _ refl

pub returns-then-eq-2 : goal.returns-then-eq-2
returns-then-eq-2 c = view-reached _ _ _ _ _ c.in-Ok.ensures _ (search rules) c.level.ensures (search rules) (granted c.uncrossed.ensures (search rules)) _ refl _ c.grown-d.ensures _ (equal-is c.eq-2.ensures) (search rules)

pub returns-then-closed_within : goal.returns-then-closed_within
returns-then-closed_within c = view-shrinks _ _ _ _ _ _ c.closed_within.ensures (search rules) _ (equal-is c.eq-2.ensures) (search rules)

pub returns : goal.returns
returns c = view-founded-is _ _ _ _ _ c.in-Ok.ensures _ (search rules) c.level.ensures (search rules) (granted c.uncrossed.ensures (search rules)) _ refl _ c.founded.ensures
