use Rattle.standing.proofs.Halving.{split-picked}
use Rattle.standing.specs.Standing.{same}
use mathlib.Core.Path.{refl}
use borrow.Author.Rules.{rules}
use Rattle.standing.proofs.splitting.asked.Goals as goal

pub returns-then-within : goal.returns-then-within
returns-then-within c = split-picked _ _ _ _ _ _ c.meet-x.ensures c.minus.ensures c.single-s.ensures (c.within.ensures.yes (search rules))

pub returns : goal.returns
returns c = same refl
