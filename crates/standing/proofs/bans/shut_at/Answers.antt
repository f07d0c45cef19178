use Rattle.standing.proofs.Barring.{shut-line}
use borrow.Author.Rules.{rules}
use Rattle.standing.proofs.bans.shut_at.Goals as goal

pub returns : goal.returns
returns c = shut-line _ _ _ _ _ _ _ _ c.masks_at-l.ensures (search rules) (search rules) (search rules) (search rules) (search rules) _ c.fails_body.ensures
