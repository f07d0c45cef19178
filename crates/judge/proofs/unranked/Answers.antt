use Rattle.judge.proofs.Tests.{one-fails, one_holds}
use borrow.Author.Rules.{rules}
use Rattle.judge.proofs.unranked.Goals as goal

pub returns-then-not-level : goal.returns-then-not-level
returns-then-not-level c = one-fails _ c.level.ensures (search rules)

pub returns : goal.returns
returns c = one_holds _ c.level.ensures (search rules) _ c.uncrossed.ensures
