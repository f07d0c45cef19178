use native.Mathlib.Omega.{arith}
use Rattle.book.proofs.Counts.{plain_in, alternatives-in, exceptions-in}
use Rattle.operations.proofs.Loading.{front_long, front-lawful, front-filled}
use Rattle.operations.proofs.fill.Goals as goal

pub row_numbers-m-requires : goal.row_numbers-m-requires
row_numbers-m-requires c = c.requires.0.limits

pub slice_bounds-pack-end : goal.slice_bounds-pack-end
slice_bounds-pack-end c = front_long c.args.s c.args.rows.now c.row_numbers-m.result c.row_numbers-m.ensures c.requires.0

pub pack-requires : goal.pack-requires
pack-requires c = (front-lawful c.args.s c.args.rows.now c.row_numbers-m.result c.row_numbers-m.ensures c.requires.0, omega (arith, plain_in _ c.requires.0.limits, alternatives-in _ c.requires.0.limits, exceptions-in _ c.requires.0.limits), c.requires.1)

pub slice_bounds-rank-end : goal.slice_bounds-rank-end
slice_bounds-rank-end c = front_long c.args.s c.args.rows.now c.row_numbers-m.result c.row_numbers-m.ensures c.requires.0

pub rank-requires : goal.rank-requires
rank-requires c = (front-lawful c.args.s c.args.rows.now c.row_numbers-m.result c.row_numbers-m.ensures c.requires.0, omega (arith, exceptions-in _ c.requires.0.limits), omega arith)

pub returns : goal.returns
returns c = front-filled c.args.s c.args.rows.now c.row_numbers-m.result c.row_numbers-m.ensures c.requires.0 _ _ c.pack.ensures c.rank.ensures
