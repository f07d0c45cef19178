use Rattle.std.proofs.Common.{◌∙◌}
use Rattle.page.proofs.Statements.{less_is}
use Rattle.page.proofs.Search.{where-equal, where-not}
use Rattle.page.proofs.earlier.Goals as goal

pub returns-then-equal : goal.returns-then-equal
returns-then-equal c = less_is _ _ _ c.lt.ensures ∙ where-equal _ _ c.if-equal.true

pub returns-else-equal : goal.returns-else-equal
returns-else-equal c = where-not _ _ c.if-equal.false
