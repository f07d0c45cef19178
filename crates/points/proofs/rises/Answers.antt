use mathlib.Core.Path.{◌∙◌}
use borrow.Author.Rules.{rules}
use borrow.Author.Tests.{eq-eqb}
use Rattle.points.proofs.Scans.{rises-first, rises-at}
use Rattle.points.proofs.rises.Goals as goal

pub returns-then-k-eq0 : goal.returns-then-k-eq0
returns-then-k-eq0 c = eq-eqb _ _ (search rules) ∙ rises-first _ _ (search rules) c.requires

pub returns-else-k-eq0 : goal.returns-else-k-eq0
returns-else-k-eq0 c = c.is_lt.ensures ∙ rises-at _ _ c.compare.result (search rules) c.compare.ensures
