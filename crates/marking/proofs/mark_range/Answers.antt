use Rattle.std.proofs.Common.{arith, rules}
use Rattle.marking.proofs.Marks.{range-begins, range_none, range-more, range_all}
use Rattle.marking.proofs.mark_range.Goals as goal

pub pattern-p-requires : goal.pattern-p-requires
pattern-p-requires c = c.requires.1

pub overflow_sub-end : goal.overflow_sub-end
overflow_sub-end c = omega (arith, c.requires.0)

pub loop-w-init : goal.loop-w-init
loop-w-init c = (range_none c.args.s _, λ h. range-begins c.args.s c.requires.1)

pub overflow_add-w : goal.overflow_add-w
overflow_add-w c = omega arith

pub mark_word-requires : goal.mark_word-requires
mark_word-requires c = omega (arith, c.loop-w.invariant.0.same)

pub next_word-w-requires : goal.next_word-w-requires
next_word-w-requires c = (search rules, c.loop-w.invariant.1 (search rules))

pub loop-w-smaller : goal.loop-w-smaller
loop-w-smaller c = omega (arith, c.next_word-w.ensures.0)

pub loop-w-preserved : goal.loop-w-preserved
loop-w-preserved c = (range-more c.args.s _ _ _ c.pattern-p.ensures c.but_one-new.ensures (c.loop-w.invariant.1 (search rules)) _ _ _ _ _ (omega (arith, c.loop-w.invariant.0.same)) (search rules) c.loop-w.invariant.0 c.mark_word.ensures c.next_word-w.ensures.0 c.next_word-w.ensures.1, c.next_word-w.ensures.1.stands)

pub shape_of-marks : goal.shape_of-marks
shape_of-marks c = c.loop-w.invariant.0.same

pub returns : goal.returns
returns c = range_all c.args.s _ _ _ (omega arith) c.loop-w.invariant.0
