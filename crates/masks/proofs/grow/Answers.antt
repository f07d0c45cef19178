use Rattle.masks.proofs.Closures.{beneath-again}
use Rattle.masks.proofs.grow.Goals as goal

pub loop-k-preserved : goal.loop-k-preserved
loop-k-preserved c = beneath-again _ _ c.loop-k.k _ _ _ _ c.loop-k-test.true c.loop-k.invariant c.masks_at-r.ensures c.add_within-e.ensures
