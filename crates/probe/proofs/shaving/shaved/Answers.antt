use Rattle.bounds.proofs.Singles.{one-atom}
use Rattle.probe.proofs.Attempts.{shave-none, shave-more}
use Rattle.probe.proofs.shaving.shaved.Goals as goal

pub loop-part-init : goal.loop-part-init
loop-part-init c = shave-none _ _ _ _

pub tried-r-requires : goal.tried-r-requires
tried-r-requires c = rw c.one.ensures (one-atom _ _)

pub returns-then-not-within : goal.returns-then-not-within
returns-then-not-within c = shave-more c.loop-place.invariant c.tried-r.ensures

pub loop-place-preserved : goal.loop-place-preserved
loop-place-preserved c = shave-more c.loop-place.invariant c.tried-r.ensures
