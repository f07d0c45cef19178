use Rattle.bounds.proofs.Steps.{unlinked}
use Rattle.masks.proofs.Booleans.{granted}
use borrow.Author.Rules.{rules}
use Rattle.bounds.proofs.unlinked.Goals as goal

pub lines_in-m-requires : goal.lines_in-m-requires
lines_in-m-requires c = (granted c.lined.ensures (search rules)).room

pub reach-taken-requires : goal.reach-taken-requires
reach-taken-requires c = ((granted c.lined.ensures (search rules)).room, search rules)

pub returns : goal.returns
returns c = unlinked _ _ _ _ (granted c.lined.ensures (search rules)) _ _ c.lines_in-m.ensures c.reach-taken.ensures _ (rw c.of_exceptions.ensures at c.out.ensures)
