use native.Mathlib.Omega.{arith}
use Rattle.book.specs.Kinds.{kinds, most, bytes, longest}
use lib.Seq.{length-take-le}
use Rattle.std.proofs.lemmas.Result.{err_from_is_err_and}
use Rattle.read.proofs.Whole.{rows-fit, read-refused, book-limits, few-numbers, rows_long, read_short, read_whole}
use borrow.Author.Rules.{rules}
use Rattle.read.proofs.read.Goals as goal

pub row_numbers-m-requires : goal.row_numbers-m-requires
row_numbers-m-requires c =
    let parse = c.parse in
    let args = c.args in
    book-limits _ args.table.now _ _ parse.ensures c.in_ok-s.s (search rules)

pub overflow_add-m : goal.overflow_add-m
overflow_add-m c =
    let parse = c.parse in
    let args = c.args in
    let b = few-numbers _ args.table.now _ _ parse.ensures c.in_ok-s.s (search rules) in
    omega (arith, b, c.row_numbers-m.ensures)

pub returns-then-table-m : goal.returns-then-table-m
returns-then-table-m c =
    let row-numbers = c.row_numbers-m in
    let parse = c.parse in
    read_short _ _ _ _ parse.ensures c.in_ok-s.s (search rules) row-numbers.result _ row-numbers.ensures (search rules) c.of.ensures

pub put_table-requires : goal.put_table-requires
put_table-requires c =
    let row-numbers = c.row_numbers-m in
    let parse = c.parse in
    let args = c.args in
    let b = book-limits _ args.table.now _ _ parse.ensures c.in_ok-s.s (search rules) in
    let l = rows_long _ args.table.now _ _ parse.ensures c.in_ok-s.s (search rules) in
    let w = length-take-le row-numbers.result c.parse.new.rows (omega (arith, l, row-numbers.ensures)) in
    (omega (arith, w), b)

pub shared_ref_as_front-rows : goal.shared_ref_as_front-rows
unfolding longest most bytes kinds
shared_ref_as_front-rows c = omega (arith, rows-fit _ c.args.table.now _ _ c.parse.ensures c.in_ok-s.s (search rules), c.row_numbers-m.ensures)

pub returns-in_err-s : goal.returns-in_err-s
returns-in_err-s c =
    let p = err_from_is_err_and c.from_residual.result c.from_residual.ensures.1 in
    rw (p.1, p.2) (read-refused _ _ _ _ c.parse.ensures _ (search rules))

pub returns : goal.returns
returns c =
    let row-numbers = c.row_numbers-m in
    let parse = c.parse in
    read_whole _ _ _ _ parse.ensures c.in_ok-s.s (search rules) row-numbers.result _ row-numbers.ensures (omega arith) c.put_table.ensures
