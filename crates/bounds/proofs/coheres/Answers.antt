use Rattle.bounds.proofs.Steps.{cohere}
use Rattle.bounds.proofs.coheres.Goals as goal

pub returns : goal.returns
returns c = cohere _ _ (rw c.of_statements.ensures at c.out.ensures)
