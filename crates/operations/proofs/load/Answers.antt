use Rattle.std.proofs.lemmas.Result.{err_from_is_err_and}
use Rattle.operations.proofs.Loading.{loads-refused, loads-accepted}
use borrow.Author.Rules.{rules}
use Rattle.operations.proofs.load.Goals as goal

pub returns-in_err-s : goal.returns-in_err-s
returns-in_err-s c =
    let p = err_from_is_err_and c.from_residual.result c.from_residual.ensures.1 in
    rw (p.1, p.2) (loads-refused _ _ _ c.parse.ensures _ (search rules) c.args.words.now c.args.ranks.now)

pub returns : goal.returns
returns c = loads-accepted _ _ _ c.parse.ensures _ (search rules) _ _ c.fill_from.ensures
