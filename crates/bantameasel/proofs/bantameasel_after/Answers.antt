use mathlib.Core.Path.{refl, ap, ◌∙◌}
use Rattle.answers.proofs.Means.{after-means}
use Rattle.across.proofs.Across.{answer-across}
use Rattle.across.specs.Across.{answer_in}
use Rattle.bantameasel.proofs.bantameasel_after.Goals as goal

pub returns-clause-means : goal.returns-clause-means
returns-clause-means c = (answer-across _ _ _ ((after-means _ _ _).0 refl) _ (c.into.ensures ∙ ap answer_in c.after.ensures.result_value)).1
