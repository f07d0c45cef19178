use mathlib.Core.Path.{refl, ap, ◌∙◌}
use Rattle.answers.proofs.Means.{judge-means}
use Rattle.across.proofs.Across.{verdict-across}
use Rattle.across.specs.Across.{verdict_in}
use Rattle.bantameasel.proofs.bantameasel_judge.Goals as goal

pub returns-clause-means : goal.returns-clause-means
returns-clause-means c = (verdict-across _ _ _ ((judge-means _ _ _).0 refl) _ (c.into.ensures ∙ ap verdict_in c.judge.ensures.result_value)).1
