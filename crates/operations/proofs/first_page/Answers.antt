use Rattle.std.proofs.lemmas.Result.{err_from_is_err_and}
use Rattle.prepare.proofs.Packing.{blank-words}
use Rattle.operations.proofs.Answers.{first-page-down, first-page-accepted}
use Rattle.operations.proofs.first_page.Goals as goal

pub load-requires : goal.load-requires
load-requires c = blank-words

pub returns-in_err-s : goal.returns-in_err-s
returns-in_err-s c = let p = err_from_is_err_and c.from_residual.result c.from_residual.ensures.1 in rw (p.1, p.2) (first-page-down _ _ _ _ c.in_err-s.ensures)

pub returns : goal.returns
returns c = first-page-accepted _ _ _ _ c.in_ok-s.ensures _ _ _ c.first_in.ensures
