use Rattle.std.proofs.lemmas.Result.{err_from_is_err_and}
use Rattle.operations.proofs.Loading.{loaded-small, refused-for, lawful-for}
use Rattle.book.proofs.Counts.{exceptions-in}
use native.Mathlib.Omega.{arith}
use Rattle.operations.proofs.load_for.Goals as goal

pub check-requires : goal.check-requires
check-requires c = let k = loaded-small _ c.in_ok-s.s _ _ c.in_ok-s.ensures in (omega (arith, k.statements), omega (arith, exceptions-in _ k))

pub returns-in_err-check : goal.returns-in_err-check
returns-in_err-check c =
    let p = err_from_is_err_and c.from_residual-in_err-check.result c.from_residual-in_err-check.ensures.1 in
    rw (p.1, p.2) (refused-for _ _ _ _ _ c.in_ok-s.ensures _ c.in_err-check.ensures)

pub returns : goal.returns
returns c = lawful-for _ _ _ _ _ c.in_ok-s.ensures c.in_ok-check.ensures
