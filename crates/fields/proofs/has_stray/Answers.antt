use Rattle.fields.proofs.Misspelt.{stray-is}
use borrow.Author.Rules.{rules}
use Rattle.fields.proofs.has_stray.Goals as goal

pub returns : goal.returns
returns c = stray-is _ _ _ _ c.is_stray.result c.is_stray-2.result c.is_stray-3.result c.is_stray-4.result (search rules) (search rules) (search rules) (search rules)
