use native.Mathlib.Omega.{arith}
use borrow.Author.Rules.{rules}
use Rattle.masks.proofs.Closures.{beneath-start, beneath-turn}
use Rattle.masks.proofs.Tests.{rules-turn, rules-lost, rules-won}
use Rattle.masks.proofs.sweep.Goals as goal

pub loop-k-init : goal.loop-k-init
loop-k-init c = (λ j h. absurd (omega arith), rw c.of_exceptions-d.ensures (beneath-start _ _))

pub returns-then-not-meets : goal.returns-then-not-meets
returns-then-not-meets c = rules-lost _ c.loop-k.k _ _ _ c.masks_at-r.ensures c.meets.ensures _ _ (omega arith) c.loop-k.invariant.1 (search rules)

pub loop-k-preserved : goal.loop-k-preserved
loop-k-preserved c =
    let loop = c.loop-k in
    let masks-at = c.masks_at-r in (
      rules-turn _ loop.k _ _ _ masks-at.ensures c.meets.ensures loop.invariant.0 (search rules),
      beneath-turn _ loop.k _ _ _ _ loop.invariant.1 masks-at.ensures c.add_within-e.ensures,
    )

pub returns : goal.returns
returns c = rules-won _ c.loop-k.k _ _ _ (search rules) (search rules) c.loop-k.invariant.0 c.loop-k.invariant.1
