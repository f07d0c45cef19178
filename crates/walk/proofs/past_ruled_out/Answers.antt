use mathlib.Core.Path.{refl}
use borrow.Author.Rules.{rules}
use native.Mathlib.Nat.{lt_of_lt_of_le}
use native.Mathlib.Omega.{arith}
use borrow.Author.Tests.{not-true, not-false}
use Rattle.walk.proofs.Places.{set-inside, skipping-none, skipping-more, stopped, skipped_all}
use Rattle.walk.proofs.past_ruled_out.Goals as goal

pub loop-place-init : goal.loop-place-init
loop-place-init c = (skipping-none _ c.requires.0 _ _ _ c.requires.3, refl)

pub ruled_out-requires : goal.ruled_out-requires
ruled_out-requires c = lt_of_lt_of_le (set-inside _ c.requires.0 _ c.loop-place.invariant.0.stands (omega (arith, c.loop-place.invariant.1, c.loop-place-test, c.requires.1))) c.requires.2

pub returns-then-not-ruled_out : goal.returns-then-not-ruled_out
returns-then-not-ruled_out c = stopped _ c.requires.0 _ _ _ _ c.loop-place.invariant.0 _ (omega (arith, c.loop-place.invariant.1, c.loop-place-test)) (c.ruled_out.ensures.no (not-true _ (search rules)))

pub next-requires : goal.next-requires
next-requires c = (omega (arith, c.requires.0), set-inside _ c.requires.0 _ c.loop-place.invariant.0.stands (omega (arith, c.loop-place.invariant.1, c.loop-place-test, c.requires.1)))

pub loop-place-preserved : goal.loop-place-preserved
loop-place-preserved c =
    let p = c.loop-place in (
      rw p.invariant.1 at (skipping-more _ c.requires.0 _ _ _ _ p.invariant.0 (omega (arith, p.invariant.1, c.loop-place-test, c.requires.1)) (c.ruled_out.ensures.yes (not-false _ (search rules))) _ c.next.ensures),
      refl,
    )

pub returns : goal.returns
returns c = skipped_all _ c.requires.0 _ _ _ _ c.loop-place.invariant.0 _ (omega (arith, c.loop-place.invariant.1, c.loop-place-test))
