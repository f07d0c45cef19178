use mathlib.Core.Path.{◌∙◌}
use Rattle.line.proofs.Whole.{length-is, part-is, part-long}
use Rattle.line.proofs.line_part.Goals as goal

pub slice_bounds-result-end : goal.slice_bounds-result-end
slice_bounds-result-end c = part-long _ _ _ _ _ _ c.line.ensures (c.unwrap_or-k.ensures ∙ length-is c.line.result)

pub returns : goal.returns
returns c = part-is _ _ _ _ _ _ c.line.ensures (c.unwrap_or-k.ensures ∙ length-is c.line.result)
