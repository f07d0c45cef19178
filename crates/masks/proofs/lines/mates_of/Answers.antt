use Rattle.masks.proofs.Steps.{mates-skip, mates-more}
use borrow.Author.Rules.{rules}
use Rattle.masks.proofs.lines.mates_of.Goals as goal

pub returns-then-m-i-eq0 : goal.returns-then-m-i-eq0
returns-then-m-i-eq0 c = mates-skip _ _ _ _ _ (search rules) (search rules)

pub returns : goal.returns
returns c = mates-more _ _ _ _ _ (search rules) (search rules) _ c.twins.ensures
