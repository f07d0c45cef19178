use Rattle.masks.proofs.Closures.{fire-yes, fire-no}
use borrow.Author.Rules.{rules}
use Rattle.masks.proofs.fire.Goals as goal

pub returns-then-fires : goal.returns-then-fires
returns-then-fires c = fire-yes _ _ _ _ c.fires.ensures (search rules) _ _ c.meet.ensures c.join.ensures

pub returns : goal.returns
returns c = fire-no _ _ _ _ c.fires.ensures (search rules)
