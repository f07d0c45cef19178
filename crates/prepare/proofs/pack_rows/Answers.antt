use Rattle.std.proofs.Common.{refl, arith}
use Rattle.prepare.proofs.Packing.{packed-turn}
use Rattle.prepare.proofs.pack_rows.Goals as goal

pub loop-k-preserved : goal.loop-k-preserved
loop-k-preserved g c = λ f e.
    let q = c.loop-k.invariant f e in
    let s = q.same in
    let x = e _ _ c.row.ensures in
    packed-turn _ _ _ _ _ _ _ _ q (rw (← x) (c.requires.flat _ _ c.row.ensures)) x refl c.put.ensures (omega (arith, c.requires.room))
