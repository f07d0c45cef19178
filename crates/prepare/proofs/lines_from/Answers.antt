use native.Mathlib.Omega.{arith}
use borrow.Author.Rules.{rules}
use Rattle.prepare.proofs.Preferences.{row_in, names-back, names-range, first-named, second-named, lines-turn, lines-last, lines-all}
use Rattle.prepare.proofs.lines_from.Goals as goal

pub loop-k-init : goal.loop-k-init
loop-k-init c = (omega arith, lines-last _ _ _ _)

pub overflow_mul-at : goal.overflow_mul-at
overflow_mul-at c = omega (arith, row_in _ _ c.requires.0 _ c.loop-k-test.true c.loop-k.invariant.0)

pub overflow_add-at : goal.overflow_add-at
overflow_add-at c = omega (arith, row_in _ _ c.requires.0 _ c.loop-k-test.true c.loop-k.invariant.0, c.requires.1)

pub offset_bounds-rows-at : goal.offset_bounds-rows-at
offset_bounds-rows-at c = omega (arith, row_in _ _ c.requires.0 _ c.loop-k-test.true c.loop-k.invariant.0, c.requires.1)

pub bounds-rows-at : goal.bounds-rows-at
bounds-rows-at c = omega (arith, row_in _ _ c.requires.0 _ c.loop-k-test.true c.loop-k.invariant.0, c.requires.1)

pub named-x-requires : goal.named-x-requires
named-x-requires c = rw c.requires.1 (names-back _ (first-named _ _ c.requires.0 _ c.loop-k-test.true c.loop-k.invariant.0))

pub overflow_add-at-in-loop-k : goal.overflow_add-at-in-loop-k
overflow_add-at-in-loop-k c = omega (arith, row_in _ _ c.requires.0 _ c.loop-k-test.true c.loop-k.invariant.0, c.requires.1)

pub offset_bounds-rows-at-in-loop-k : goal.offset_bounds-rows-at-in-loop-k
offset_bounds-rows-at-in-loop-k c = omega (arith, row_in _ _ c.requires.0 _ c.loop-k-test.true c.loop-k.invariant.0, c.requires.1)

pub bounds-rows-at-in-loop-k : goal.bounds-rows-at-in-loop-k
bounds-rows-at-in-loop-k c = omega (arith, row_in _ _ c.requires.0 _ c.loop-k-test.true c.loop-k.invariant.0, c.requires.1)

pub named-y-requires : goal.named-y-requires
named-y-requires c = rw c.requires.1 (names-back _ (second-named _ _ c.requires.0 _ c.loop-k-test.true c.loop-k.invariant.0))

pub with_line-set-requires : goal.with_line-set-requires
with_line-set-requires c = names-range _ _ (rw c.requires.1 (names-back _ (second-named _ _ c.requires.0 _ c.loop-k-test.true c.loop-k.invariant.0))) c.named-y.ensures

pub loop-k-preserved : goal.loop-k-preserved
loop-k-preserved c = (omega arith, rw c.requires.1 (lines-turn _ _ c.requires.0 _ c.loop-k-test.true c.loop-k.invariant.0 _ _ _ _ _ (rw c.requires.1 at c.loop-k.invariant.1) (rw c.requires.1 at c.named-x.ensures) (rw c.requires.1 at c.named-y.ensures) c.with_line-set.ensures))

pub returns : goal.returns
returns c = lines-all _ _ _ _ _ (search rules) (rw c.requires.1 at c.loop-k.invariant.1)
