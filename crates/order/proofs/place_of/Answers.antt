use mathlib.Core.Path.{sym, ◌∙◌}
use native.Mathlib.Omega.{arith}
use Rattle.sets.proofs.Sizes.{size-narrow}
use Rattle.order.proofs.Turns.{none_below, size-inside, more-fits, size-added, place-reached, placed-fits}
use Rattle.order.proofs.place_of.Goals as goal

pub loop-n-init : goal.loop-n-init
loop-n-init c = let z = none_below c.args.x in (record { small = c.requires.0; inside = c.requires.1; fits = omega arith; counted = z.0; whole = sym z.1 }, c.size-size.ensures ∙ sym (size-narrow c.args.x c.args.t (omega (arith, c.requires.0)) c.requires.1))

pub overflow_add-before : goal.overflow_add-before
overflow_add-before c = record { fits = more-fits c.loop-n.invariant.0 (omega (arith, c.loop-n.invariant.1)) }

pub of_next_size-count-requires : goal.of_next_size-count-requires
of_next_size-count-requires c = let b = c.loop-n.invariant.0 in (b.small, size-inside b, b.counted)

pub loop-n-preserved : goal.loop-n-preserved
loop-n-preserved c = (size-added c.loop-n.invariant.0 (omega (arith, c.loop-n.invariant.1)) c.of_next_size-count.ensures, c.loop-n.invariant.1)

pub overflow_add-result : goal.overflow_add-result
overflow_add-result c = record { fits = placed-fits c.loop-n.invariant.0 (omega (arith, c.loop-n.invariant.1)) c.place_in_size.ensures }

pub returns : goal.returns
returns c = place-reached c.loop-n.invariant.0 (omega (arith, c.loop-n.invariant.1)) c.place_in_size.ensures
