use Rattle.standing.proofs.Barring.{fails-is}
use borrow.Author.Rules.{rules}
use Rattle.standing.proofs.bans.fails_body.Goals as goal

pub returns : goal.returns
returns c = fails-is _ _ _ (search rules) c.falsified.ensures
