use mathlib.Core.Path.{ap, ◌∙◌}
use Rattle.std.specs.Prelude.{Some}
use Rattle.page.specs.Pages.{pair_at}
use Rattle.operations.proofs.Answers.{found-end, found_some}
use borrow.Author.Rules.{rules}
use Rattle.operations.proofs.found.Goals as goal

pub returns-then-count-eq0 : goal.returns-then-count-eq0
returns-then-count-eq0 c = found-end _ _ (search rules)

pub returns : goal.returns
unfolding pair_at
returns c = ap Some c.pair_at.ensures ∙ found_some _ _ (search rules)
