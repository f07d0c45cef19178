use Prim.Native.Nat.{◌+◌}
use mathlib.Core.Path.{refl, ap}
use native.Mathlib.Omega.{arith}
use lib.ListN.{length}
use borrow.Author.Rules.{rules}
use Rattle.book.specs.declared.Kind.{Kind}
use Rattle.std.proofs.lemmas.Result.{err_from_is_err_and}
use Rattle.read.proofs.Going.{turned}
use Rattle.book.specs.Faults.{numbered}
use Rattle.book.proofs.Faults.{numbered-ok}
use Rattle.write.proofs.TableLaws.{rest-start, rest-next, rest-failed, rest-passed, spread-start, spread-next, spread-in}
use Rattle.write.proofs.test_kind.Goals as goal

pub kind_at-x-requires : goal.kind_at-x-requires
kind_at-x-requires c = omega arith

pub loop-i-init : goal.loop-i-init
loop-i-init c = (ap (λ (y : Kind). y.numbers) c.kind_at-x.ensures, spread-start _ _ _, rest-start _ _ _ _ _ _ _)

pub test_row-requires : goal.test_row-requires
test_row-requires c =
    let loop = c.loop-i in
    let kind_at = c.kind_at-x in
    let args = c.args in
    let pre = c.requires in
    let g = spread-in loop.at args.c loop.i-counter kind_at.result.numbers _ (length args.t.now) (omega arith) loop.invariant.1 (rw loop.invariant.0 pre.2) in (pre.0, pre.1, rw (← loop.invariant.0) g, search rules, search rules)

pub returns-in_err-map_err : goal.returns-in_err-map_err
returns-in_err-map_err c =
    let p = err_from_is_err_and c.from_residual.result c.from_residual.ensures.1 in
    let u = turned c.test_row.result c.map_err.result c.in_err-map_err.field-0.0 (c.args.line + c.loop-i.i-counter) _ (λ q r w. search rules) c.in_err-map_err.was c.map_err.ensures.cases in
    let test-row = c.test_row in
    let loop = c.loop-i in
    let args = c.args in
    rw (p.1, p.2) (rest-failed _ args.t.now args.from _ _ _ _ loop.at loop.i-counter (omega arith) loop.invariant.2 (numbered test-row.result) test-row.ensures _ refl refl u.0 _ u.1 u.2)

pub overflow_add-at : goal.overflow_add-at
overflow_add-at c =
    let loop = c.loop-i in
    let kind_at = c.kind_at-x in
    let args = c.args in
    let pre = c.requires in
    let g = spread-in loop.at args.c loop.i-counter kind_at.result.numbers _ (length args.t.now) (omega arith) loop.invariant.1 (rw loop.invariant.0 pre.2) in omega (arith, g)

pub loop-i-preserved : goal.loop-i-preserved
loop-i-preserved c =
    let test-row = c.test_row in
    let loop = c.loop-i in
    let args = c.args in
    (loop.invariant.0, spread-next loop.at args.c loop.i-counter _ _ (omega arith) loop.invariant.1, rest-next _ args.t.now args.from _ _ _ _ loop.at loop.i-counter (omega arith) loop.invariant.2 (numbered test-row.result) test-row.ensures _ loop.invariant.0 (numbered-ok test-row.result _ (search rules)))

pub returns : goal.returns
returns c =
    let loop = c.loop-i in
    let args = c.args in
    rest-passed _ args.t.now args.from _ _ _ _ _ refl refl loop.at loop.i-counter _ (omega arith) (omega arith) loop.invariant.1 loop.invariant.0 loop.invariant.2
