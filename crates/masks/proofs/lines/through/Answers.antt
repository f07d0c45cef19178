use borrow.Author.Rules.{rules}
use Rattle.masks.proofs.Steps.{grown-more, grown-same}
use Rattle.masks.proofs.lines.through.Goals as goal

pub returns-then-from-t-ne0 : goal.returns-then-from-t-ne0
returns-then-from-t-ne0 c = grown-more _ _ _ _ (search rules) c.ranges.from.fits

pub returns : goal.returns
returns c = grown-same _ _ _ _ (search rules)
