use Rattle.masks.proofs.Tests.{fires-no, fires-rest}
use borrow.Author.Rules.{rules}
use Rattle.masks.proofs.fires.Goals as goal

pub returns-then-not-within : goal.returns-then-not-within
returns-then-not-within c = fires-no _ _ _ _ c.within.ensures (search rules)

pub returns : goal.returns
returns c = fires-rest _ _ _ _ c.within.ensures _ (search rules) c.apart.ensures
