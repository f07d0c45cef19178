use mathlib.Core.Path.{◌∙◌}
use Rattle.fields.proofs.Misspelt.{ascii-is, gap_is}
use Rattle.fields.proofs.is_gap.Goals as goal

pub returns : goal.returns
returns c = gap_is _ _ c.is_ascii_digit.result (c.is_ascii_digit.ensures.value ∙ ascii-is _)
