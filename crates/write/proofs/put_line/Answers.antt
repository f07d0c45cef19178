use native.Mathlib.Omega.{arith}
use lib.ListN.{length-set}
use Rattle.book.proofs.Counts.{kind-small}
use Rattle.write.proofs.PutLaws.{short-part, put-line-is, line-in, fields_in}
use Rattle.write.proofs.put_line.Goals as goal

pub bounds-buf-at : goal.bounds-buf-at
bounds-buf-at c =
    let args = c.args in
    let pre = c.requires in
    omega (arith, line-in c.kind_at-x.result args.k c.kind_at-x.ensures _ _ pre.3)

pub put_numbers-requires : goal.put_numbers-requires
put_numbers-requires c =
    let kind_at = c.kind_at-x in
    let args = c.args in
    let pre = c.requires in
    (short-part args.t.now args.from kind_at.result.fields pre.1, fields_in kind_at.result args.k kind_at.ensures _ _ pre.2, simp length-set (omega (arith, line-in kind_at.result args.k kind_at.ensures _ _ pre.3)))

pub overflow_mul-buf : goal.overflow_mul-buf
overflow_mul-buf c =
    let kind_at = c.kind_at-x in
    let args = c.args in
    let pre = c.requires in
    omega (arith, kind-small kind_at.result args.k kind_at.ensures pre.0)

pub overflow_add-buf-2 : goal.overflow_add-buf-2
overflow_add-buf-2 c =
    let kind_at = c.kind_at-x in
    let args = c.args in
    let pre = c.requires in
    omega (arith, line-in kind_at.result args.k kind_at.ensures _ _ pre.3)

pub bounds-buf-at-2 : goal.bounds-buf-at-2
bounds-buf-at-2 c =
    let put-numbers = c.put_numbers in
    let kind_at = c.kind_at-x in
    let args = c.args in
    let pre = c.requires in
    omega (arith, simp length-set at put-numbers.auto.buf, line-in kind_at.result args.k kind_at.ensures _ _ pre.3)

pub shape_of-buf : goal.shape_of-buf
shape_of-buf c =
    let put-numbers = c.put_numbers in
    simp length-set (simp length-set at put-numbers.auto.buf)

pub returns : goal.returns
returns c =
    let put-numbers = c.put_numbers in
    let kind_at = c.kind_at-x in
    let args = c.args in
    let pre = c.requires in
    put-line-is _ _ args.t.now args.at args.k args.from kind_at.result kind_at.ensures pre.2 put-numbers.ensures
