use Rattle.least.proofs.Gathering.{unanswered-has, unanswered-need}
use borrow.Author.Rules.{rules}
use Rattle.least.proofs.rows.unanswered.Goals as goal

pub returns-then-not-apart : goal.returns-then-not-apart
returns-then-not-apart c = unanswered-has _ _ _ c.apart.ensures (search rules)

pub returns : goal.returns
returns c = unanswered-need _ _ _ c.apart.ensures (search rules) _ c.within.ensures
