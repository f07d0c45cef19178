use Rattle.marking.proofs.Marks.{look-shut, look-noted}
use Rattle.std.proofs.Common.{rules}
use Rattle.marking.proofs.is_marked.Goals as goal

pub returns-then-t-marks-ne0 : goal.returns-then-t-marks-ne0
returns-then-t-marks-ne0 c = look-shut _ _ (search rules)

pub returns : goal.returns
returns c = look-noted _ _ (search rules)
