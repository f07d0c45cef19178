use borrow.Author.Rules.{rules}
use mathlib.Core.Path.{refl, ◌∙◌}
use native.Mathlib.Omega.{arith}
use Rattle.least.proofs.Gathering.{gathered_none, gathered-mute, gathered-put, gathered-done}
use Rattle.least.proofs.rows.gather.Goals as goal
use Rattle.least.proofs.rows.gather.Goals.{then-can_ask, else-can_ask}

pub loop-k-init : goal.loop-k-init
loop-k-init c = (refl, gathered_none _ _ _)

pub loop-k-preserved : goal.loop-k-preserved
loop-k-preserved c =
    let f = c.loop-k.invariant.1.few in let l = c.loop-k.invariant.0 in let p = c.requires in
    elim c.if-can_ask.branch [
      | then-can_ask w ↦ rw (w.rows-is, w.m-is) (
        w.put.auto.rows ∙ l,
        gathered-put _ c.loop-k.k _ _ _ c.loop-k.invariant.1 _ c.masks_at-r.ensures _ c.can_ask.ensures w.if-can_ask.true (omega arith) _ w.row_of.ensures _ w.put.ensures,
      )
      | else-can_ask w ↦ rw (w.rows-is, w.m-is) (l, gathered-mute _ c.loop-k.k _ _ _ c.loop-k.invariant.1 _ c.masks_at-r.ensures _ c.can_ask.ensures w.if-can_ask.false)
    ]

pub returns : goal.returns
returns c = gathered-done _ c.loop-k.k _ _ _ _ (search rules) (search rules) c.loop-k.invariant.1
