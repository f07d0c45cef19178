use Rattle.masks.proofs.Booleans.{refused}
use borrow.Author.Rules.{rules}
use Rattle.masks.proofs.closed_at.Goals as goal

pub returns-then-not-fires : goal.returns-then-not-fires
returns-then-not-fires c = λ e f o. refused c.fires.ensures (search rules) f

pub returns : goal.returns
returns c = λ e f o. refused c.apart.ensures e o
