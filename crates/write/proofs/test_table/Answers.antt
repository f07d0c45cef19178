use native.Mathlib.Omega.{arith}
use mathlib.Core.Path.{refl}
use borrow.Author.Rules.{rules}
use Rattle.std.proofs.lemmas.Result.{err_from_is_err_and}
use Rattle.read.proofs.Going.{turned}
use Rattle.book.specs.Faults.{numbered}
use Rattle.book.proofs.Faults.{numbered-ok}
use Rattle.write.proofs.TableLaws.{statements-in, statements-out, table-short, table-n}
use Rattle.write.proofs.test_table.Goals as goal

pub returns-then-t-lt-FRONT : goal.returns-then-t-lt-FRONT
returns-then-t-lt-FRONT c = table-short _ _ (search rules) c.of.ensures

pub test_counts-requires : goal.test_counts-requires
test_counts-requires c =
    let check-number = c.check_number in
    let args = c.args in
    (omega arith, statements-in args.t.now _ refl (search rules) (numbered check-number.result) check-number.ensures (numbered-ok check-number.result _ (search rules)))

pub returns-in_err-map_err : goal.returns-in_err-map_err
returns-in_err-map_err c =
    let p = err_from_is_err_and c.from_residual.result c.from_residual.ensures.1 in
    let u = turned c.check_number.result c.map_err.result c.in_err-map_err.field-0.0 1 _ (λ q r w. search rules) c.in_err-map_err.was c.map_err.ensures.cases in
    let check-number = c.check_number in
    let args = c.args in
    rw (p.1, p.2) (table-n _ (omega arith) _ u.0 (statements-out args.t.now _ refl (search rules) (numbered check-number.result) check-number.ensures _ u.1) u.2)
