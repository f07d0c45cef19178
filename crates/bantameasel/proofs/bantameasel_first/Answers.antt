use mathlib.Core.Path.{refl, ap, ◌∙◌}
use Rattle.answers.proofs.Means.{first-means}
use Rattle.across.proofs.Across.{answer-across}
use Rattle.across.specs.Across.{answer_in}
use Rattle.bantameasel.proofs.bantameasel_first.Goals as goal

pub returns-clause-means : goal.returns-clause-means
returns-clause-means c = (answer-across _ _ _ ((first-means _ _).0 refl) _ (c.into.ensures ∙ ap answer_in c.first.ensures.result_value)).1
