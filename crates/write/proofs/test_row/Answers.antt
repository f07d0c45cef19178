use native.Mathlib.Omega.{arith}
use borrow.Author.Rules.{rules}
use Rattle.std.proofs.lemmas.Result.{err_from_is_err_and}
use lib.ListN.{length}
use Rattle.std.proofs.lemmas.Slice.{between_to_end}
use Rattle.book.specs.Faults.{numbered}
use Rattle.book.proofs.Faults.{numbered-ok, numbered-err}
use Rattle.write.proofs.RowLaws.{kind-long, kind-contents, kind-heads, row-wrong, row-headless, row-missing, row_fine}
use Rattle.write.proofs.test_row.Goals as goal

pub test_fields-requires : goal.test_fields-requires
test_fields-requires c =
    let args = c.args in
    (kind-long c.kind_at-x.result args.k c.kind_at-x.ensures args.from _ (search rules), kind-contents c.kind_at-x.result args.k c.kind_at-x.ensures c.requires.0 c.requires.1, search rules, search rules)

pub is_headless-requires : goal.is_headless-requires
is_headless-requires c = omega (arith, kind-heads c.kind_at-x.result c.args.k c.kind_at-x.ensures c.requires.0 c.requires.1)

pub returns-then-is_headless : goal.returns-then-is_headless
returns-then-is_headless c = row-headless c.args.t.now c.args.from _ _ _ c.kind_at-x.result c.kind_at-x.ensures c.requires.0 c.requires.1 c.requires.2 (numbered c.test_fields.result) c.test_fields.ensures c.in_ok-seen.seen (numbered-ok _ _ c.in_ok-seen.was) c.is_headless.result (rw (between_to_end c.args.t.now c.args.from (length c.args.t.now) (omega arith)) at c.is_headless.ensures) (search rules)

pub returns-then-seen : goal.returns-then-seen
returns-then-seen c = row-missing c.args.t.now c.args.from _ _ _ c.kind_at-x.result c.kind_at-x.ensures c.requires.0 c.requires.1 c.requires.2 (numbered c.test_fields.result) c.test_fields.ensures c.in_ok-seen.seen (numbered-ok _ _ c.in_ok-seen.was) c.is_headless.result (rw (between_to_end c.args.t.now c.args.from (length c.args.t.now) (omega arith)) at c.is_headless.ensures) (search rules) (search rules)

pub returns-in_err-seen : goal.returns-in_err-seen
returns-in_err-seen c =
    let p = err_from_is_err_and c.from_residual.result c.from_residual.ensures.1 in
    rw (p.1, p.2) (row-wrong c.args.t.now c.args.from _ _ _ c.kind_at-x.result c.kind_at-x.ensures c.requires.0 c.requires.1 c.requires.2 (numbered c.test_fields.result) c.test_fields.ensures _ (numbered-err _ _ c.in_err-seen.was))

pub returns : goal.returns
returns c = row_fine c.args.t.now c.args.from _ _ _ c.kind_at-x.result c.kind_at-x.ensures c.requires.0 c.requires.1 c.requires.2 (numbered c.test_fields.result) c.test_fields.ensures c.in_ok-seen.seen (numbered-ok _ _ c.in_ok-seen.was) c.is_headless.result (rw (between_to_end c.args.t.now c.args.from (length c.args.t.now) (omega arith)) at c.is_headless.ensures) (search rules) (search rules)
