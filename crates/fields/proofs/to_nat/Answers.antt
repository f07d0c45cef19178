use borrow.Author.Rules.{rules}
use Rattle.fields.proofs.Numbers.{nat-or}
use Rattle.fields.proofs.to_nat.Goals as goal

pub returns : goal.returns
returns c = nat-or _ c.try_from.result _ (search rules) c.try_from.ensures c.unwrap_or.ensures
