use native.Mathlib.Omega.{arith}
use borrow.Author.Rules.{rules}
use Rattle.write.proofs.TableLaws.{table-over, shape-bounded, few-numbers, table-long, table-tested}
use Rattle.write.proofs.test_counts.Goals as goal

pub returns-then-counts_over : goal.returns-then-counts_over
returns-then-counts_over c =
    let counts-over = c.counts_over in
    let pre = c.requires in
    table-over _ pre.0 pre.1 _ counts-over.result counts-over.ensures (search rules) c.of.ensures

pub row_numbers-requires : goal.row_numbers-requires
row_numbers-requires c =
    let counts-over = c.counts_over in
    let args = c.args in
    let pre = c.requires in
    shape-bounded args.t.now pre.0 pre.1 counts-over.result counts-over.ensures (search rules) c.shape_in-s.result c.shape_in-s.ensures

pub overflow_add-row_numbers : goal.overflow_add-row_numbers
overflow_add-row_numbers c =
    let shape-in = c.shape_in-s in
    let counts-over = c.counts_over in
    let args = c.args in
    let pre = c.requires in
    let b = few-numbers args.t.now pre.0 pre.1 counts-over.result counts-over.ensures (search rules) shape-in.result shape-in.ensures in omega (arith, b, c.row_numbers.ensures)

pub returns-then-t-row_numbers : goal.returns-then-t-row_numbers
returns-then-t-row_numbers c =
    let row-numbers = c.row_numbers in
    let shape-in = c.shape_in-s in
    let counts-over = c.counts_over in
    let pre = c.requires in
    table-long _ pre.0 pre.1 counts-over.result counts-over.ensures (search rules) shape-in.result shape-in.ensures _ row-numbers.result row-numbers.ensures (search rules) c.of-then-t-row_numbers.ensures

pub test_rows-requires : goal.test_rows-requires
test_rows-requires c =
    let row-numbers = c.row_numbers in
    let shape-in = c.shape_in-s in
    let counts-over = c.counts_over in
    let args = c.args in
    let pre = c.requires in
    (shape-bounded args.t.now pre.0 pre.1 counts-over.result counts-over.ensures (search rules) shape-in.result shape-in.ensures, omega (arith, row-numbers.ensures))

pub returns : goal.returns
returns c =
    let row-numbers = c.row_numbers in
    let shape-in = c.shape_in-s in
    let counts-over = c.counts_over in
    let pre = c.requires in
    table-tested _ pre.0 pre.1 counts-over.result counts-over.ensures (search rules) shape-in.result shape-in.ensures _ row-numbers.result row-numbers.ensures (search rules) c.test_rows.ensures
