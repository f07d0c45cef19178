use native.Mathlib.Omega.{arith}
use Rattle.fields.proofs.Columns.{digit-in, digit-out}
use mathlib.Core.Path.{◌∙◌}
use Rattle.fields.proofs.digit.Goals as goal

pub returns-then-is_ascii_digit : goal.returns-then-is_ascii_digit
returns-then-is_ascii_digit c =
    let h = c.if-is_ascii_digit.ensures.cases in
    (c.from.ensures ∙ digit-in _ (omega (arith, h)) (omega (arith, h)), omega (arith, h))

pub returns-else-is_ascii_digit : goal.returns-else-is_ascii_digit
returns-else-is_ascii_digit c = (digit-out _ c.if-is_ascii_digit.ensures.cases, omega arith)
