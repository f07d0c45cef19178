use Rattle.bounds.proofs.Steps.{level-above, level-below}
use borrow.Author.Rules.{rules}
use Rattle.bounds.proofs.level_step.Goals as goal

pub returns-then-b-a-eq1 : goal.returns-then-b-a-eq1
returns-then-b-a-eq1 c = level-above _ _ _ _ (search rules) (rw c.of_exceptions.ensures at c.out.ensures)

pub returns-then-rank-b-ne0 : goal.returns-then-rank-b-ne0
returns-then-rank-b-ne0 c = level-below _ _ _ _ _ (search rules) c.one.ensures c.out-then-rank-b-ne0.ensures
