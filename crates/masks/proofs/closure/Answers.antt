use native.Mathlib.Nat.{le_refl}
use native.Mathlib.Omega.{arith}
use borrow.Author.Rules.{rules}
use Rattle.sets.proofs.Pairs.{equal-is}
use Rattle.masks.proofs.Closures.{first_below, next_start, next-below, closure-full, closure-least, pass-grows}
use Rattle.masks.proofs.closure.Goals as goal

pub loop-b-init : goal.loop-b-init
loop-b-init c = rw c.of_exceptions-c.ensures (λ i. le_refl _, first_below _ _ _)

pub returns-then-eq : goal.returns-then-eq
returns-then-eq c = closure-full _ _ _ _ _ (equal-is c.eq.ensures) (search rules) c.loop-b.invariant.0 c.loop-b.invariant.1

pub loop-b-smaller : goal.loop-b-smaller
loop-b-smaller c = let g = pass-grows _ _ _ _ _ c.pass-d.ensures _ (equal-is c.eq-in-loop-b.ensures) (search rules) in omega (arith, c.pass-d.type_inv)

pub loop-b-preserved : goal.loop-b-preserved
loop-b-preserved c = (next_start _ _ _ _ _ c.pass-d.ensures c.loop-b.invariant.0, next-below _ _ _ _ _ c.pass-d.ensures c.loop-b.invariant.1)

pub returns : goal.returns
returns c = closure-least _ _ _ _ _ c.pass-d.ensures _ (equal-is c.eq-in-loop-b.ensures) (search rules) c.loop-b.invariant.0 c.loop-b.invariant.1
