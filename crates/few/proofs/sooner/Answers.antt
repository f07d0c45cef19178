use Rattle.std.proofs.Common.{rules}
use Rattle.page.proofs.Statements.{less_is}
use Rattle.few.proofs.Comparing.{sooner-none, sooner-some}
use Rattle.few.proofs.sooner.Goals as goal

pub returns-then-i-ge64 : goal.returns-then-i-ge64
returns-then-i-ge64 c = sooner-none _ _ _ c.low-i.ensures.1 (search rules) (search rules) (search rules) (search rules) (search rules)

pub returns : goal.returns
returns c = rw (less_is _ _ _ c.lt.ensures) (sooner-some _ _ _ c.low-i.ensures.1 (search rules) _ _ c.value_at.ensures c.value_at-2.ensures)
