use native.Mathlib.Omega.{arith}
use Rattle.logic.proofs.Stores.{putting-start, putting-next, putting-end}
use Rattle.text.specs.Fields.{columns, in_columns}
use Rattle.line.proofs.PutLaws.{zeros-are}
use Rattle.line.proofs.put_zeros.Goals as goal

pub loop-i-init : goal.loop-i-init
loop-i-init c = putting-start _ _ _ _ _ (omega arith)

pub put_columns-requires : goal.put_columns-requires
put_columns-requires c = (omega arith, omega arith)

pub loop-i-preserved : goal.loop-i-preserved
unfolding columns in_columns
loop-i-preserved c =
    let put-columns = c.put_columns in
    let loop = c.loop-i in
    putting-next _ _ _ _ loop.buf _ loop.i loop.invariant (omega arith) _ _ put-columns.ensures (omega arith)

pub returns : goal.returns
returns c =
    let loop = c.loop-i in
    let args = c.args in
    (putting-end _ _ _ _ _ _ loop.i _ loop.invariant (omega arith) (zeros-are args.w 0)).0
