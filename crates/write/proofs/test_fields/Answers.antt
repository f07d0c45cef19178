use Rattle.book.specs.Kinds.{contents, numbers_of}
use mathlib.Core.Path.{refl}
use native.Mathlib.Omega.{arith}
use borrow.Author.Rules.{rules}
use Rattle.read.specs.Storing.{none_seen}
use Rattle.read.proofs.FieldLaws.{part, part_at, part-long}
use Rattle.std.proofs.lemmas.Result.{err_from_is_err_and}
use Rattle.book.specs.Faults.{numbered}
use Rattle.book.proofs.Faults.{numbered-ok, numbered-err}
use Rattle.write.proofs.RowLaws.{rest-start, rest-wrong, rest-next, rest_end}
use Rattle.write.proofs.test_fields.Goals as goal

pub loop-i-init : goal.loop-i-init
unfolding none_seen
loop-i-init c = rest-start _ _ _ _ _ _ refl

pub overflow_add-x : goal.overflow_add-x
unfolding contents
overflow_add-x c = omega arith

pub returns-in_err-check_number : goal.returns-in_err-check_number
unfolding numbers_of
returns-in_err-check_number c =
    let check-number = c.check_number in
    let content-at = c.content_at-content in
    let loop = c.loop-i in
    let args = c.args in
    let p = err_from_is_err_and c.from_residual.result c.from_residual.ensures.1 in
    rw (p.1, p.2) (rest-wrong args.t.now args.from (part args.x.from args.x.numbers) _ _ loop.i loop.seen (rw (part-long args.x.from args.x.numbers (omega arith)) (omega arith)) (omega arith) (search rules) content-at.result (part_at args.x.from args.x.numbers _ _ (omega arith) (search rules)) _ refl (search rules) (numbered check-number.result) check-number.ensures _ (numbered-err _ _ c.in_err-check_number.was))

pub loop-i-preserved : goal.loop-i-preserved
loop-i-preserved c =
    let check-number = c.check_number in
    let content-at = c.content_at-content in
    let loop = c.loop-i in
    let args = c.args in
    rest-next args.t.now args.from (part args.x.from args.x.numbers) _ _ loop.i loop.seen (rw (part-long args.x.from args.x.numbers (omega arith)) (omega arith)) (omega arith) (search rules) content-at.result (part_at args.x.from args.x.numbers _ _ (omega arith) (search rules)) _ refl (search rules) (numbered check-number.result) check-number.ensures _ (numbered-ok _ _ c.in_ok-check_number.was) c.see-seen.ensures

pub returns : goal.returns
unfolding numbers_of
returns c =
    let loop = c.loop-i in
    let args = c.args in
    rest_end args.t.now args.from (part args.x.from args.x.numbers) _ _ loop.i loop.seen (rw (part-long args.x.from args.x.numbers (omega arith)) (omega arith)) (search rules)
