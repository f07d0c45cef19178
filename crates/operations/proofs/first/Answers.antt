use Rattle.std.proofs.lemmas.Result.{err_from_is_err_and}
use Rattle.std.specs.Prelude.{Ok}
use mathlib.Core.Path.{refl, ap, ◌∙◌}
use Rattle.answers.specs.Operations.{answer_of}
use Rattle.answers.proofs.Means.{with-meaning, first-means}
use Rattle.operations.proofs.Answers.{first-found, first-not}
use Rattle.operations.proofs.first.Goals as goal

pub returns-in_err-count : goal.returns-in_err-count
returns-in_err-count c =
    let p = err_from_is_err_and c.from_residual.result c.from_residual.ensures.1 in
    let whole = with-meaning _ _ _ (first-means _ _) (first-not _ _ _ _ _ c.in_err-count.ensures) in
    rw (p.1, p.2) (record { result_value = whole.0; means = whole.1 })

pub returns : goal.returns
returns c =
    let whole = with-meaning _ _ _ (first-means _ _) (ap (λ o. answer_of (Ok o)) c.found.ensures ∙ first-found _ _ _ _ refl c.in_ok-count.ensures) in
    record { result_value = whole.0; means = whole.1 }
