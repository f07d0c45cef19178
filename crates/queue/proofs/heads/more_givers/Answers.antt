use mathlib.Core.Path.{refl}
use borrow.Author.Rules.{rules}
use Rattle.queue.proofs.Chains.{seen-several}
use Rattle.queue.proofs.Rows.{row-begin, row-turn, row-end}
use Rattle.queue.proofs.heads.more_givers.Goals as goal

pub loop-i-init : goal.loop-i-init
loop-i-init c = rw (c.into_iter-i-iterator.ensures.into_iter_gives, c.members-i-items.ensures) (row-begin _ _ _ _ _ _ _ (search rules) c.requires.1 c.requires.2)

pub returns-in-Several : goal.returns-in-Several
returns-in-Several c = seen-several _ _ _ _ _ _ (search rules)

pub returns-then-n-k : goal.returns-then-n-k
returns-then-n-k c = seen-several _ _ _ _ _ _ refl

pub loop-i-preserved : goal.loop-i-preserved
loop-i-preserved c = row-turn _ _ _ _ _ _ _ _ _ _ _ c.in-Some.ensures.steps.left (search rules) c.masks_at.ensures c.loop-i.invariant c.weighed-h.ensures

pub returns : goal.returns
returns c = row-end _ _ _ _ _ _ _ c.in-None.ensures.steps c.loop-i.invariant
