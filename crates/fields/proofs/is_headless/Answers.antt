use Rattle.fields.proofs.Filled.{headless-is, no-heads-asked}
use borrow.Author.Rules.{rules}
use Rattle.fields.proofs.is_headless.Goals as goal

pub returns-then-x-ne0 : goal.returns-then-x-ne0
returns-then-x-ne0 c = headless-is _ _ _ c.filled_in.ensures

pub returns-else-x-ne0 : goal.returns-else-x-ne0
returns-else-x-ne0 c = no-heads-asked _ _ (search rules)
