use borrow.Author.Rules.{rules}
use Rattle.sets.proofs.Digits.{shifted}
use Rattle.queue.proofs.Rows.{put_first, put-turn, put-done}
use Rattle.queue.proofs.heads.put.Goals as goal

pub loop-i-init : goal.loop-i-init
loop-i-init c = (search rules, shifted _ (search rules), rw (c.into_iter-i-iterator.ensures.into_iter_gives, c.members-i-items.ensures) (put_first _ _ _ _))

pub loop-i-preserved : goal.loop-i-preserved
loop-i-preserved c = let small = c.in-Some.ensures.steps.small in (search rules, c.loop-i.invariant.1, put-turn _ _ _ _ _ _ _ _ _ c.loop-i.invariant.1 (search rules) (search rules) c.in-Some.ensures.steps.left c.loop-i.invariant.2)

pub returns : goal.returns
returns c = put-done _ _ _ _ _ _ c.in-None.ensures.steps c.loop-i.invariant.2
