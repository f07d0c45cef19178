use Rattle.std.proofs.lemmas.Result.{err_from_is_err_and}
use Rattle.prepare.proofs.Packing.{blank-words}
use Rattle.answers.specs.Operations.{told_of}
use Rattle.answers.proofs.Means.{with-meaning, judge-means}
use Rattle.operations.proofs.Answers.{judge-down, judge-accepted}
use Rattle.operations.proofs.judge.Goals as goal

pub load_for-requires : goal.load_for-requires
load_for-requires c = blank-words

pub returns-in_err-shape : goal.returns-in_err-shape
unfolding told_of
returns-in_err-shape c =
    let p = err_from_is_err_and c.from_residual.result c.from_residual.ensures.1 in
    let whole = with-meaning _ _ _ (judge-means _ _ _) (judge-down _ _ _ c.in_err-shape.ensures) in
    rw (p.1, p.2) (record { result_value = whole.0; means = whole.1 })

pub returns : goal.returns
unfolding told_of
returns c = let whole = with-meaning _ _ _ (judge-means _ _ _) (judge-accepted _ _ _ _ _ c.in_ok-shape.ensures _ c.verdict_in.ensures) in record { result_value = whole.0; means = whole.1 }
