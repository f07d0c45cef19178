use Rattle.bounds.proofs.Steps.{idle-untaken}
use Rattle.bounds.proofs.untaken.Goals as goal

pub returns : goal.returns
returns c = idle-untaken _ _ _ (rw c.of_exceptions.ensures at c.out.ensures)
