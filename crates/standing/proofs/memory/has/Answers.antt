use Rattle.standing.proofs.Rows.{row_has}
use Rattle.standing.proofs.memory.has.Goals as goal

pub returns-then-subset : goal.returns-then-subset
returns-then-subset c = row_has _ _ _ _ _ c.subset.ensures c.if-subset.true c.subset-then-subset.ensures
