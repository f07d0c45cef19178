use Rattle.few.proofs.Sorting.{putting-none, putting-next}
use Rattle.few.proofs.put_sorted.Goals as goal

pub loop-place-init : goal.loop-place-init
loop-place-init c = putting-none _ _ _ _ _ c.requires.2 _ c.first_later-next.ensures

pub loop-place-preserved : goal.loop-place-preserved
loop-place-preserved c = putting-next _ _ _ _ _ _ _ _ (rw c.in-Some.is at c.loop-place.invariant) c.loop-place-test.true _ c.pair_at.ensures _ c.put.ensures _ c.first_later-next-in-loop-place.ensures
