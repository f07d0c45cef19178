use mathlib.Core.Path.{◌∙◌}
use Rattle.fields.proofs.Misspelt.{ascii-is}
use Rattle.fields.proofs.Usual.{two_digits, one-digit}
use borrow.Author.Rules.{rules}
use Rattle.fields.proofs.is_usual.Goals as goal

pub returns-then-c : goal.returns-then-c
returns-then-c c = λ e. two_digits _ _ _ _ c.is_ascii_digit.result (c.is_ascii_digit.ensures.value ∙ ascii-is _) (search rules) (search rules) e

pub returns : goal.returns
returns c = λ e. one-digit _ _ _ _ c.is_ascii_digit.result (c.is_ascii_digit.ensures.value ∙ ascii-is _) (search rules) e
