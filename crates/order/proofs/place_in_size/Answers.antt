use native.Mathlib.Omega.{arith}
use borrow.Author.Rules.{rules}
use Prim.Native.Nat.{◌-◌, ◌+◌}
use mathlib.Core.Path.{◌≡◌}
use Rattle.order.proofs.Turns.{one-less, found, size_fits, part-fits, place-stays, found-without, found-with}
use Rattle.order.proofs.place_in_size.Goals as goal

pub without_last-without-requires : goal.without_last-without-requires
without_last-without-requires c =
    let b = c.loop-w.invariant in
    let e : c.loop-w.w - 1 + 1 ≡ c.loop-w.w = omega arith in
    rw e (omega arith, omega (arith, b.numbers, b.small), size_fits b, b.counted)

pub loop-w-preserved-then-t-w-eq0 : goal.loop-w-preserved-then-t-w-eq0
loop-w-preserved-then-t-w-eq0 c = found-without c.loop-w.invariant (omega arith) (one-less _ _ _ c.without_last-without.ensures) (search rules)

pub overflow_add-place : goal.overflow_add-place
overflow_add-place c = record { fits = place-stays c.loop-w.invariant (omega arith) (one-less _ _ _ c.without_last-without.ensures) (search rules) }

pub overflow_sub-c : goal.overflow_sub-c
overflow_sub-c c = part-fits c.loop-w.invariant (omega arith) (one-less _ _ _ c.without_last-without.ensures) (search rules)

pub loop-w-preserved : goal.loop-w-preserved
loop-w-preserved c = found-with c.loop-w.invariant (omega arith) (one-less _ _ _ c.without_last-without.ensures) (search rules)

pub returns-after-loop-w : goal.returns-after-loop-w
returns-after-loop-w c = found c.loop-w.invariant (let l = size_fits c.loop-w.invariant in omega arith)

pub returns-then-left-eq0 : goal.returns-then-left-eq0
returns-then-left-eq0 c = found c.loop-w.invariant (omega arith)
