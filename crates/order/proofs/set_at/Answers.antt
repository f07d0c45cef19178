use mathlib.Core.Path.{◌≡◌, ◌∙◌}
use native.Mathlib.Omega.{arith}
use borrow.Author.Rules.{rules}
use Rattle.order.proofs.Turns.{none_below, sized, last-size, size-passed}
use Rattle.order.proofs.set_at.Goals as goal

pub loop-n-init : goal.loop-n-init
loop-n-init c = let z = none_below c.args.x in record { small = c.requires.0; inside = c.requires.1; fits = omega arith; counted = z.0; whole = omega (arith, z.1) }

pub returns-then-rest-count : goal.returns-then-rest-count
returns-then-rest-count c = c.set_of_size.ensures ∙ sized c.loop-n.invariant (search rules)

pub loop-n-preserved : goal.loop-n-preserved
loop-n-preserved c = size-passed c.loop-n.invariant (omega arith) c.of_next_size-count.ensures

pub set_of_size-requires-2 : goal.set_of_size-requires-2
set_of_size-requires-2 c =
    let b = c.loop-n.invariant in
    let e : c.loop-n.n ≡ c.args.x = omega arith in
    (b.small, rw e at b.counted, last-size b e)

pub returns : goal.returns
returns c =
    let b = c.loop-n.invariant in
    let e : c.loop-n.n ≡ c.args.x = omega arith in
    c.set_of_size-2.ensures ∙ rw e at (sized b (last-size b e))
