use Rattle.admissible.proofs.Subsets.{minimal-asked}
use Rattle.admissible.proofs.minimal_at.Goals as goal

pub returns : goal.returns
returns c = minimal-asked _ _ _ _ _ _ c.if-taken-e-eq0.false _ c.cleared.ensures _ c.with_sets-b.ensures _ c.ask.ensures _ c.is_none.ensures
