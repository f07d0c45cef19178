use native.Mathlib.Omega.{arith}
use borrow.Author.Rules.{rules}
use Rattle.fields.proofs.Filled.{filled_more, filled-same, filled-end}
use Rattle.fields.proofs.filled_in.Goals as goal
use Rattle.fields.proofs.filled_in.Goals.{then-v-ne0, else-v-ne0}

pub loop-v-init : goal.loop-v-init
loop-v-init c = (omega arith, omega arith)

pub loop-v-preserved : goal.loop-v-preserved
loop-v-preserved c =
    let loop = c.loop-v in
    elim c.if-v-ne0.branch [
      | then-v-ne0 w ↦ rw w.n-is (omega arith, filled_more c.args.t.now loop.v-index loop.n _ (search rules) loop.invariant.1 (search rules) w.if-v-ne0.true)
      | else-v-ne0 w ↦ rw w.n-is (omega arith, filled-same c.args.t.now loop.v-index loop.n _ (search rules) loop.invariant.1 (search rules) w.if-v-ne0.false)
    ]

pub returns : goal.returns
returns c = filled-end c.args.t.now c.loop-v.v-index _ _ (search rules) c.loop-v.invariant.1
