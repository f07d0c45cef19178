use native.Mathlib.Omega.{arith}
use borrow.Author.Rules.{rules}
use Rattle.book.proofs.Counts.{exceptions-in}
use Rattle.std.proofs.lemmas.Result.{err_from_is_err_and}
use Rattle.write.proofs.TableLaws.{going_start, going-in, going-kind, going-line, going-failed, going_next, going_end}
use Rattle.write.proofs.test_rows.Goals as goal

pub loop-k-init : goal.loop-k-init
loop-k-init c = going_start _ _

pub test_kind-requires : goal.test_kind-requires
test_kind-requires c =
    let loop = c.loop-k in
    let pre = c.requires in
    (loop.invariant.low, search rules, going-in _ _ _ _ _ loop.invariant (search rules) _ c.count_of-c.ensures pre.1, omega (arith, pre.0.statements), omega (arith, exceptions-in _ pre.0), omega (arith, going-line _ _ _ _ _ loop.invariant (search rules) _ c.count_of-c.ensures pre.0))

pub returns-in_err-test_kind : goal.returns-in_err-test_kind
returns-in_err-test_kind c =
    let p = err_from_is_err_and c.from_residual.result c.from_residual.ensures.1 in
    let test-kind = c.test_kind in
    let count_of = c.count_of-c in
    let loop = c.loop-k in
    let args = c.args in
    rw (p.1, p.2) (going-failed args.t.now _ _ _ _ loop.invariant (search rules) _ count_of.ensures test-kind.result test-kind.ensures _ (search rules))

pub overflow_mul-from : goal.overflow_mul-from
overflow_mul-from c =
    let kind_at = c.kind_at-x in
    let count_of = c.count_of-c in
    let loop = c.loop-k in
    omega (arith, going-kind _ _ _ _ _ loop.invariant (search rules) _ count_of.ensures kind_at.result kind_at.ensures c.requires.1)

pub overflow_add-from : goal.overflow_add-from
overflow_add-from c =
    let kind_at = c.kind_at-x in
    let count_of = c.count_of-c in
    let loop = c.loop-k in
    omega (arith, going-kind _ _ _ _ _ loop.invariant (search rules) _ count_of.ensures kind_at.result kind_at.ensures c.requires.1)

pub overflow_add-line : goal.overflow_add-line
overflow_add-line c =
    let count_of = c.count_of-c in
    let loop = c.loop-k in
    omega (arith, going-line _ _ _ _ _ loop.invariant (search rules) _ count_of.ensures c.requires.0)

pub loop-k-preserved : goal.loop-k-preserved
loop-k-preserved c =
    let kind_at = c.kind_at-x in
    let test-kind = c.test_kind in
    let count_of = c.count_of-c in
    let loop = c.loop-k in
    going_next _ _ loop.k loop.from loop.line loop.invariant (search rules) count_of.result count_of.ensures test-kind.result test-kind.ensures c.requires.0 kind_at.result kind_at.ensures (search rules)

pub returns : goal.returns
returns c =
    let args = c.args in
    going_end args.t.now _ _ _ _ c.loop-k.invariant (search rules)
