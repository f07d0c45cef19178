use borrow.Author.Tests.{not-true, not-false}
use Rattle.one_set.proofs.Sets.{below-known, below-tested}
use Rattle.std.proofs.Common.{rules}
use Rattle.one_set.proofs.none_below.Goals as goal

pub returns-then-not-known : goal.returns-then-not-known
returns-then-not-known c = below-tested _ _ _ _ _ _ _ (not-true _ (search rules)) _ _ c.unexceeded.ensures

pub returns : goal.returns
returns c = below-known _ _ _ _ _ _ _ (not-false _ (search rules))
