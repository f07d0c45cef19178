use borrow.Author.Rules.{rules}
use Rattle.masks.proofs.Steps.{line-used, line-unused, line_at}
use Rattle.masks.proofs.lines.by_line.Goals as goal

pub returns-then-m-j-eq0 : goal.returns-then-m-j-eq0
returns-then-m-j-eq0 c = line-unused _ _ _ _ _ _ (search rules) (search rules)

pub returns : goal.returns
returns c = line-used _ _ _ _ _ _ _ (search rules) (search rules) (line_at _ _ _ _ _ _ _ c.masks_at-l.ensures c.through.ensures)
