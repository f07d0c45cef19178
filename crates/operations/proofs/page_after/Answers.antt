use Rattle.std.proofs.lemmas.Result.{err_from_is_err_and}
use Rattle.prepare.proofs.Packing.{blank-words}
use Rattle.operations.proofs.Loading.{few-taken}
use Rattle.operations.proofs.Answers.{page-after-down, page-after-accepted}
use Rattle.operations.proofs.page_after.Goals as goal

pub load_for-requires : goal.load_for-requires
load_for-requires c = blank-words

pub returns-in_err-s : goal.returns-in_err-s
returns-in_err-s c = let p = err_from_is_err_and c.from_residual.result c.from_residual.ensures.1 in rw (p.1, p.2) (page-after-down _ _ _ _ _ c.in_err-s.ensures)

pub after_in-requires : goal.after_in-requires
after_in-requires c = few-taken _ _ _ _ _ c.in_ok-s.ensures

pub returns : goal.returns
returns c = page-after-accepted _ _ _ _ _ c.in_ok-s.ensures _ _ _ c.after_in.ensures
