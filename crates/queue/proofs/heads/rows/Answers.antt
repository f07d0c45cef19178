use borrow.Author.Rules.{rules}
use Rattle.queue.proofs.Rows.{rows-many, rows-first, rows-turn, rows-done}
use Rattle.queue.proofs.heads.rows.Goals as goal

pub returns-then-c-n : goal.returns-then-c-n
returns-then-c-n c = rows-many _ _ _ _ (search rules)

pub loop-k-init : goal.loop-k-init
loop-k-init c = (search rules, search rules, rows-first _ _ _ _)

pub loop-k-preserved : goal.loop-k-preserved
loop-k-preserved c = (search rules, search rules, rows-turn _ _ _ _ _ _ _ _ c.masks_at.ensures c.loop-k.invariant.2 c.put_heads.ensures)

pub returns : goal.returns
returns c = rows-done _ _ _ _ _ _ (search rules) (search rules) c.loop-k.invariant.2
