use Rattle.fields.proofs.Columns.{back-same}
use native.Mathlib.Omega.{arith}
use borrow.Author.Rules.{rules}
use mathlib.Core.Path.{refl}
use Prim.Native.Nat.{◌+◌}
use lib.IntN.{pos}
use lib.ListN.{get_or}
use Rattle.logic.proofs.Stores.{putting-start, putting-next, putting-end}
use Rattle.text.proofs.Fields.{field-length}
use Rattle.fields.proofs.Puts.{fields-are, short_back}
use Rattle.fields.proofs.put_numbers.Goals as goal

pub loop-i-init : goal.loop-i-init
loop-i-init c = putting-start _ _ _ _ _ (omega arith)

pub overflow_add-from : goal.overflow_add-from
overflow_add-from c = omega arith

pub overflow_mul-i : goal.overflow_mul-i
overflow_mul-i c = omega arith

pub overflow_add-at : goal.overflow_add-at
overflow_add-at c = omega arith

pub put_number-requires : goal.put_number-requires
put_number-requires c = (short_back c.args.t.now c.args.from c.args.w c.loop-i.i _ (search rules) (omega arith) refl (search rules), omega arith)

pub loop-i-preserved : goal.loop-i-preserved
loop-i-preserved c =
    let loop = c.loop-i in
    let e = back-same (get_or c.args.t.now (c.args.from + loop.i) (pos 0)) (search rules) in
    putting-next _ _ _ _ loop.buf _ loop.i loop.invariant (omega arith) _ _ (rw e at c.put_number.ensures) (rw field-length (omega arith))

pub returns : goal.returns
returns c =
    let args = c.args in
    let loop = c.loop-i in
    (putting-end _ _ _ _ _ _ loop.i _ loop.invariant (omega arith) (fields-are args.t.now args.from args.w args.from 0 (omega arith) (search rules))).0
