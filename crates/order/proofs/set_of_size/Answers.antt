use native.Mathlib.Omega.{arith}
use borrow.Author.Rules.{rules}
use Prim.Native.Nat.{◌-◌, ◌+◌}
use mathlib.Core.Path.{◌≡◌}
use Rattle.order.proofs.Turns.{one-less, built, left-fits, sum_fits, built-without, built-with}
use Rattle.order.proofs.set_of_size.Goals as goal

pub without_last-without-requires : goal.without_last-without-requires
without_last-without-requires c =
    let b = c.loop-w.invariant in
    let e : c.loop-w.w - 1 + 1 ≡ c.loop-w.w = omega arith in
    rw e (omega arith, omega (arith, b.numbers, b.small), left-fits b, b.counted)

pub loop-w-preserved-then-rest-without : goal.loop-w-preserved-then-rest-without
loop-w-preserved-then-rest-without c = built-without c.loop-w.invariant (omega arith) (one-less _ _ _ c.without_last-without.ensures) (search rules)

pub overflow_add-t : goal.overflow_add-t
overflow_add-t c = record { fits = sum_fits c.loop-w.invariant (omega arith) (one-less _ _ _ c.without_last-without.ensures) (search rules) }

pub loop-w-preserved : goal.loop-w-preserved
loop-w-preserved c = built-with c.loop-w.invariant (omega arith) (one-less _ _ _ c.without_last-without.ensures) (search rules)

pub returns-after-loop-w : goal.returns-after-loop-w
returns-after-loop-w c = built c.loop-w.invariant (let l = left-fits c.loop-w.invariant in omega arith)

pub returns-then-left-eq0 : goal.returns-then-left-eq0
returns-then-left-eq0 c = built c.loop-w.invariant (omega arith)
