use Rattle.book.specs.Kinds.{contents, fields_of}
use Rattle.read.specs.Storing.{none_seen}
use native.Mathlib.Omega.{arith}
use borrow.Author.Rules.{rules}
use Rattle.std.proofs.lemmas.Result.{err_from_is_err_and}
use Rattle.book.specs.Faults.{numbered}
use Rattle.book.proofs.Faults.{numbered-ok, numbered-err}
use Rattle.read.proofs.FieldLaws.{part, part_at, part-long, rest-start, rest-wrong, rest-next, rest_end}
use Rattle.read.proofs.read_fields.Goals as goal

pub loop-i-init : goal.loop-i-init
unfolding none_seen
loop-i-init c = rest-start _ _ _ _ _ _ _ _ _ (search rules)

pub overflow_add-x : goal.overflow_add-x
unfolding contents
overflow_add-x c = omega arith

pub returns-in_err-v : goal.returns-in_err-v
unfolding fields_of
returns-in_err-v c =
    let p = err_from_is_err_and c.from_residual.result c.from_residual.ensures.1 in
    rw (p.1, p.2) (rest-wrong c.args.text.now c.args.at (part c.args.x.from c.args.x.fields) _ _ _ _ _ _ c.loop-i.i c.loop-i.seen (rw (part-long c.args.x.from c.args.x.fields (omega arith)) (omega arith)) (search rules) c.content_at-content.result (part_at c.args.x.from c.args.x.fields _ _ (omega arith) (search rules)) (numbered c.read_number.result) c.read_number.ensures _ (numbered-err _ _ c.in_err-v.was))

pub loop-i-preserved : goal.loop-i-preserved
loop-i-preserved c = rest-next c.args.text.now c.args.at (part c.args.x.from c.args.x.fields) _ _ _ _ _ c.loop-i.t c.loop-i.i c.loop-i.seen (rw (part-long c.args.x.from c.args.x.fields (omega arith)) (omega arith)) (search rules) c.content_at-content.result (part_at c.args.x.from c.args.x.fields _ _ (omega arith) (search rules)) (numbered c.read_number.result) c.read_number.ensures c.in_ok-v.v _ (search rules) (numbered-ok _ _ c.in_ok-v.was) c.see-seen.ensures

pub returns : goal.returns
unfolding fields_of
returns c = rest_end c.args.text.now c.args.at (part c.args.x.from c.args.x.fields) _ _ _ _ _ _ c.loop-i.i c.loop-i.seen (rw (part-long c.args.x.from c.args.x.fields (omega arith)) (omega arith)) (search rules)
