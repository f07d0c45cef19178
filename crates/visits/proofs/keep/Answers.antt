use Rattle.visits.proofs.Made.{room-enough, made_all}
use Rattle.visits.proofs.keep.Goals as goal

pub visit_all-requires : goal.visit_all-requires
visit_all-requires c = room-enough _ _ c.in_ok-check.ensures

pub returns : goal.returns
returns c = let e = c.in_ok-check.ensures in (e, made_all _ _ _ _ _ (λ i. (c.type_inv.calls i).fits) (room-enough _ _ e) c.visit_all.ensures)
