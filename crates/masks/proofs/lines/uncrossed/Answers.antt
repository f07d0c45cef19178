use Rattle.masks.proofs.Steps.{uncrossed-none, uncrossed-reach}
use Rattle.masks.proofs.Booleans.{granted}
use borrow.Author.Rules.{rules}
use Rattle.masks.proofs.lines.uncrossed.Goals as goal

pub returns-then-not-lined : goal.returns-then-not-lined
returns-then-not-lined c = uncrossed-none _ _ _ _ _ c.lined.ensures (search rules)

pub lines_in-m-requires : goal.lines_in-m-requires
lines_in-m-requires c = (granted c.lined.ensures (search rules)).room

pub reach-requires : goal.reach-requires
reach-requires c = ((granted c.lined.ensures (search rules)).room, search rules)

pub returns : goal.returns
returns c = uncrossed-reach _ _ _ _ _ c.lined.ensures (search rules) (search rules) _ _ c.lines_in-m.ensures c.reach.ensures
