use borrow.Author.Rules.{rules}
use Rattle.fields.proofs.Numbers.{count-is}
use Rattle.fields.proofs.is_count.Goals as goal

pub returns : goal.returns
returns c = count-is _ _ (search rules) (search rules)
