use Rattle.queue.proofs.Turns.{support-none, support-one}
use borrow.Author.Rules.{rules}
use Rattle.queue.proofs.heads.support.Goals as goal

pub returns-in-Nobody : goal.returns-in-Nobody
returns-in-Nobody c = support-none _ _ _ _ c.requires.1 _ _ c.all_givers-g.ensures _ _ (search rules) c.one-m.ensures c.out.ensures

pub returns-in-One : goal.returns-in-One
returns-in-One c = support-one _ _ _ _ c.requires.1 _ _ c.all_givers-g.ensures _ _ _ _ c.in-One.is c.one-m.ensures c.masks_at.ensures c.sole_giver.ensures
