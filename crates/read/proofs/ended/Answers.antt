use borrow.Author.Rules.{rules}
use Rattle.read.proofs.States.{end_refused, end-found}
use Rattle.read.proofs.ended.Goals as goal

pub returns-then-st-ne-KINDS : goal.returns-then-st-ne-KINDS
returns-then-st-ne-KINDS c = end_refused c.args.st _ _ (search rules) c.of.ensures

pub returns : goal.returns
returns c = end-found c.args.st _ _ (search rules) c.shape_from.ensures
