use Rattle.std.proofs.Common.{refl, rules}
use Rattle.one_set.proofs.Sets.{open_after, open_none, open-some, opened-still, opened-marked}
use Rattle.one_set.proofs.list_open.Goals as goal

pub returns-then-after : goal.returns-then-after
returns-then-after c = opened-still _ _ _ _ _ _ _ _ _ _ _ _ _ c.list_standing-r.ensures _ _ refl (λ v p. open_after _ _ _ _ _ _ _ _ _ _ _ _ _ c.list_standing-r.ensures v p _ (search rules))

pub returns-then-at-r : goal.returns-then-at-r
returns-then-at-r c = opened-marked _ _ _ _ _ _ _ _ _ _ _ _ _ c.list_standing-r.ensures _ _ c.mark_surpassed.ensures (λ v p. open-some _ _ _ _ _ _ _ _ _ _ _ _ _ c.list_standing-r.ensures v p _ (search rules) (search rules) _ c.mark_surpassed.ensures)

pub returns-else-at-r : goal.returns-else-at-r
returns-else-at-r c = opened-still _ _ _ _ _ _ _ _ _ _ _ _ _ c.list_standing-r.ensures _ _ refl (λ v p. open_none _ _ _ _ _ _ _ _ _ _ _ _ _ c.list_standing-r.ensures v p _ (search rules) (search rules))
