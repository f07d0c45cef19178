use Rattle.masks.proofs.Tests.{meets-head, meets-idle}
use borrow.Author.Rules.{rules}
use Rattle.masks.proofs.meets.Goals as goal

pub returns-then-f : goal.returns-then-f
returns-then-f c = meets-head _ _ _ c.requires _ (search rules) c.apart.ensures

pub returns : goal.returns
returns c = meets-idle _ _ _ c.requires (search rules)
