use Rattle.masks.proofs.Steps.{passed}
use Rattle.masks.proofs.lines.pass.Goals as goal

pub returns : goal.returns
returns c = passed _ _ _ _ _ _ _ _ c.by_ranks.ensures c.by_lines.ensures
