use Rattle.walk.proofs.Walks.{going-first, going-in, going_next, walking-on, walked-full, walked-past, walked_none, left-less}
use Rattle.walk.proofs.Places.{set-inside, position-next}
use lib.Pow.{pow_mono}
use native.Mathlib.Omega.{arith}
use native.Mathlib.Nat.{lt_of_lt_of_le}
use Prim.Native.Nat.{◌^◌, ◌<◌}
use mathlib.Core.Path.{refl, ◌∙◌}
use borrow.Author.Rules.{rules}
use Rattle.walk.proofs.walk.Goals as goal

pub returns-then-task-at : goal.returns-then-task-at
returns-then-task-at c = walked-full _ _ _ _ _ c.requires.1 _ _ _ _ _ _ _ _ _ _ _ (going-first _ _ _ _ _ c.requires.1 _ _ _ _ _ _ c.requires.0 c.requires.2) (search rules)

pub returns-then-s-first : goal.returns-then-s-first
returns-then-s-first c = walked_none _ _ _ _ _ c.requires.1 _ _ _ _ _ _ _ c.spanned-s.ensures c.requires.0 c.requires.2 _ c.max-first.ensures (search rules)

pub past_ruled_out-next-requires : goal.past_ruled_out-next-requires
past_ruled_out-next-requires c = (c.requires.1, c.spanned-s.ensures.to, c.requires.3, record { to = omega (arith, c.spanned-s.ensures.to); is = λ l. c.set_at-set.ensures })

pub loop-next-init : goal.loop-next-init
loop-next-init c = (walking-on _ _ _ _ _ c.requires.1 _ _ _ _ _ _ _ _ _ _ _ _ (going-in _ _ _ _ _ c.requires.1 _ _ _ _ _ _ _ c.spanned-s.ensures c.requires.0 c.requires.2 _ c.max-first.ensures (omega (arith, c.spanned-s.ensures.to))) _ refl _ c.past_ruled_out-next.ensures, omega (arith, c.if-task-at))

pub list_set-r-requires : goal.list_set-r-requires
list_set-r-requires c = let g = c.loop-next.invariant.0.some _ c.in-Ok.is in (g.0.fits, lt_of_lt_of_le (set-inside _ c.requires.1 _ g.1 (omega (arith, c.spanned-s.ensures.to, g.2))) (rw c.loop-next.auto.marks c.requires.3), rw c.loop-next.auto.store c.requires.4)

pub returns-then-task-r : goal.returns-then-task-r
returns-then-task-r c = let g = c.loop-next.invariant.0.some _ c.in-Ok.is in let h : c.in-Ok.p.place < 2 ^ c.args.x = omega (arith, c.spanned-s.ensures.to, g.2) in walked-full _ _ _ _ _ c.requires.1 _ _ _ _ _ _ _ _ _ _ _ (going_next _ _ _ _ _ c.requires.1 _ _ _ _ _ _ _ _ _ _ _ g.0 h _ (g.1.is h) _ _ _ _ c.loop-next.invariant.1 c.list_set-r.ensures c.list_set-r.auto.out) (search rules)

pub overflow_add-place : goal.overflow_add-place
overflow_add-place c = let g = c.loop-next.invariant.0.some _ c.in-Ok.is in record { fits = omega (arith, g.1.to, pow_mono c.requires.1) }

pub next-set-requires : goal.next-set-requires
next-set-requires c = let g = c.loop-next.invariant.0.some _ c.in-Ok.is in (omega (arith, c.requires.1), set-inside _ c.requires.1 _ g.1 (omega (arith, c.spanned-s.ensures.to, g.2)))

pub past_ruled_out-next-requires-in-Ok : goal.past_ruled_out-next-requires-in-Ok
past_ruled_out-next-requires-in-Ok c = let g = c.loop-next.invariant.0.some _ c.in-Ok.is in (c.requires.1, c.spanned-s.ensures.to, rw (c.list_set-r.auto.marks ∙ c.loop-next.auto.marks) c.requires.3, position-next _ c.requires.1 _ g.1 (omega (arith, c.spanned-s.ensures.to, g.2)) _ c.next-set.ensures)

pub loop-next-smaller : goal.loop-next-smaller
loop-next-smaller c = let g = c.loop-next.invariant.0.some _ c.in-Ok.is in rw c.in-Ok.is (left-less _ _ _ _ _ _ c.in-Ok.p _ refl c.past_ruled_out-next-in-Ok.ensures (omega (arith, c.spanned-s.ensures.to, g.2)))

pub loop-next-preserved : goal.loop-next-preserved
loop-next-preserved c = let g = c.loop-next.invariant.0.some _ c.in-Ok.is in let h : c.in-Ok.p.place < 2 ^ c.args.x = omega (arith, c.spanned-s.ensures.to, g.2) in (walking-on _ _ _ _ _ c.requires.1 _ _ _ _ _ _ _ _ _ _ _ _ (going_next _ _ _ _ _ c.requires.1 _ _ _ _ _ _ _ _ _ _ _ g.0 h _ (g.1.is h) _ _ _ _ c.loop-next.invariant.1 c.list_set-r.ensures c.list_set-r.auto.out) _ refl _ c.past_ruled_out-next-in-Ok.ensures, omega (arith, c.if-task-r))

pub returns : goal.returns
returns c = let g = c.loop-next.invariant.0.none _ c.in_default.is in walked-past _ _ _ _ _ c.requires.1 _ _ _ _ _ _ _ c.spanned-s.ensures _ _ _ _ _ g.0 g.1
