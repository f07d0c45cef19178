use Rattle.fields.proofs.Misspelt.{gapped-is}
use borrow.Author.Rules.{rules}
use Rattle.fields.proofs.has_gap.Goals as goal

pub returns : goal.returns
returns c = gapped-is _ _ _ _ c.is_gap.result c.is_gap-2.result c.is_gap-3.result (search rules) (search rules) (search rules)
