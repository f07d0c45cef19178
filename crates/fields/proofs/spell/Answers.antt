use Rattle.fields.proofs.Columns.{back-same, usual-spelt, is-spelt, not_right, is-misspelt}
use borrow.Author.Rules.{rules}
use Rattle.fields.proofs.spell.Goals as goal

pub returns-then-is_usual : goal.returns-then-is_usual
returns-then-is_usual c = rw (back-same c.to_signed.result c.to_signed.type_inv) (usual-spelt _ _ _ _ c.size.result c.minus_in.result c.is_usual.result (search rules) (search rules) (search rules) c.is_usual.ensures c.to_signed.result (search rules))

pub returns-then-columns_are : goal.returns-then-columns_are
returns-then-columns_are c = rw (back-same c.to_signed-then-columns_are.result c.to_signed-then-columns_are.type_inv) (is-spelt _ _ _ _ c.size-m.result c.minus_in-neg.result c.columns_are.result (search rules) (search rules) (search rules) c.to_signed-then-columns_are.result (search rules) (search rules))

pub misspelling-requires : goal.misspelling-requires
misspelling-requires c = not_right _ _ _ _ c.size-m.result c.minus_in-neg.result c.columns_are.result (search rules) (search rules) (search rules) (search rules)

pub returns : goal.returns
returns c = is-misspelt _ _ _ _ c.size-m.result c.minus_in-neg.result c.columns_are.result (search rules) (search rules) (search rules) _ (search rules) (search rules)
