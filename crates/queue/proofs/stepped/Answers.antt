use Rattle.bounds.proofs.Steps.{keeps_same, by-rule}
use borrow.Author.Rules.{rules}
use Rattle.queue.proofs.stepped.Goals as goal

pub returns-then-j-n : goal.returns-then-j-n
returns-then-j-n c = keeps_same _

pub returns-then-not-quiet : goal.returns-then-not-quiet
returns-then-not-quiet c = by-rule _ _ (search rules) c.masks_at-r.ensures c.said.ensures

pub returns : goal.returns
returns c = keeps_same _
