use Rattle.fields.proofs.Misspelt.{meets-5, meets-17, meets-18}
use borrow.Author.Rules.{rules}
use Rattle.fields.proofs.misspelling.Goals as goal

pub returns-then-stray : goal.returns-then-stray
returns-then-stray c = meets-5 _ _ _ _ c.has_stray-stray.result (search rules) (search rules)

pub returns-then-gap : goal.returns-then-gap
returns-then-gap c = meets-17 _ _ _ _ c.has_stray-stray.result c.has_gap-gap.result (search rules) (search rules) (search rules) (search rules)

pub returns : goal.returns
returns c = meets-18 _ _ _ _ c.has_stray-stray.result c.has_gap-gap.result (search rules) (search rules) (search rules) (search rules) (search rules)
