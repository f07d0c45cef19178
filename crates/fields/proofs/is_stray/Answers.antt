use mathlib.Core.Path.{◌∙◌}
use Rattle.fields.proofs.Misspelt.{ascii-is, stray-minus, stray-space, stray-other}
use borrow.Author.Rules.{rules}
use Rattle.fields.proofs.is_stray.Goals as goal

pub returns-in-45 : goal.returns-in-45
returns-in-45 c = stray-minus _ _ _ c.is_ascii_digit.result c.is_ascii_digit-in-45.result (search rules) (c.is_ascii_digit.ensures.value ∙ ascii-is _) (c.is_ascii_digit-in-45.ensures.value ∙ ascii-is _)

pub returns-in-32 : goal.returns-in-32
returns-in-32 c = stray-space _ _ _ (search rules)

pub returns-in_default : goal.returns-in_default
returns-in_default c = stray-other _ _ _ c.is_ascii_digit-in_default.result (search rules) (search rules) (c.is_ascii_digit-in_default.ensures.value ∙ ascii-is _)
