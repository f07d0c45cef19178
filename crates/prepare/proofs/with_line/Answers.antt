use Rattle.prepare.proofs.Preferences.{line-added, line_other}
use borrow.Author.Rules.{rules}
use Rattle.prepare.proofs.with_line.Goals as goal

pub returns-then-x-a : goal.returns-then-x-a
returns-then-x-a c = line-added _ _ _ _ _ (search rules) c.add.ensures

pub returns : goal.returns
returns c = line_other _ _ _ _ (search rules)
