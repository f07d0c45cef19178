use Rattle.std.proofs.Common.{rules}
use Rattle.superior.proofs.Lines.{picks-low, picks-near}
use Rattle.superior.proofs.line_to_try.Goals as goal

pub returns-then-near-ne0 : goal.returns-then-near-ne0
returns-then-near-ne0 c = picks-near _ _ _ c.ranges.m.fits c.low.ensures.0 (search rules) c.low.ensures.1

pub returns-else-near-ne0 : goal.returns-else-near-ne0
returns-else-near-ne0 c = picks-low _ _ c.ranges.m.fits c.low-else-near-ne0.ensures.0 c.low-else-near-ne0.ensures.1
