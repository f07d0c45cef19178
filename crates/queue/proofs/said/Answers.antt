use Rattle.queue.proofs.Turns.{failing}
use borrow.Author.Rules.{rules}
use Rattle.queue.proofs.said.Goals as goal

pub returns : goal.returns
returns c = failing _ _ _ _ c.requires (search rules) c.untaken.ensures
