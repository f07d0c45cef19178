use Rattle.least.proofs.Gathering.{asks-headless, asks-idle, asks-apart}
use borrow.Author.Rules.{rules}
use Rattle.least.proofs.rows.can_ask.Goals as goal

pub returns-then-apart : goal.returns-then-apart
returns-then-apart c = asks-headless _ _ _ c.apart.ensures (search rules)

pub returns-then-not-fires : goal.returns-then-not-fires
returns-then-not-fires c = asks-idle _ _ _ c.apart.ensures (search rules) _ c.fires.ensures (search rules)

pub returns : goal.returns
returns c = asks-apart _ _ _ c.apart.ensures (search rules) _ c.fires.ensures (search rules) _ c.meet.ensures _ c.apart-2.ensures
