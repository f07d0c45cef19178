use Rattle.masks.proofs.Steps.{lined-short, lined-first}
use borrow.Author.Rules.{rules}
use Rattle.masks.proofs.lines.lined.Goals as goal

pub returns-then-words-at : goal.returns-then-words-at
returns-then-words-at c = lined-short _ _ (search rules)

pub returns : goal.returns
returns c = lined-first _ _ (search rules) (search rules)
