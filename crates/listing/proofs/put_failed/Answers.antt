use Rattle.listing.proofs.Stores.{failed-put}
use native.Mathlib.Omega.{arith}
use lib.ListN.{length-set}
use Rattle.listing.proofs.put_failed.Goals as goal

pub put_columns-requires : goal.put_columns-requires
put_columns-requires c = simp length-set (omega arith)

pub put_columns-requires-2 : goal.put_columns-requires-2
put_columns-requires-2 c = omega (arith, simp length-set at c.put_columns.auto.buf)

pub bounds-out-9 : goal.bounds-out-9
bounds-out-9 c = omega (arith, simp length-set at c.put_columns.auto.buf, c.put_columns-2.auto.buf)

pub shape_of-out : goal.shape_of-out
shape_of-out c = simp length-set (omega (arith, simp length-set at c.put_columns.auto.buf, c.put_columns-2.auto.buf))

pub returns : goal.returns
returns c = failed-put c.args.out.now _ _ _ _ c.put_columns.ensures c.put_columns-2.ensures
