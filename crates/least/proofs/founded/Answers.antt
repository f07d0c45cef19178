use Rattle.least.proofs.Laws.{founded-alone}
use Rattle.least.proofs.founded.Goals as goal

pub returns : goal.returns
returns c = founded-alone _ _ _ _ _ _ c.gather-m.ensures (rw c.of_exceptions.ensures at c.alone.ensures)
