use Rattle.masks.proofs.Tests.{level-idle, level-rest}
use borrow.Author.Rules.{rules}
use Rattle.masks.proofs.level_at.Goals as goal

pub returns-then-taken-a-eq0 : goal.returns-then-taken-a-eq0
returns-then-taken-a-eq0 c = level-idle _ _ _ (search rules)

pub returns : goal.returns
returns c = level-rest _ _ _ (search rules)
