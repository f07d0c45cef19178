use Rattle.prepare.proofs.Masks.{line-is}
use Rattle.prepare.proofs.line_masks.Goals as goal

pub returns : goal.returns
returns c = rw c.of_statements.ensures (line-is _ _ c.requires _ _ _ _ c.named_set-upper.ensures c.named_set-lower.ensures c.entries_mask-needed.ensures c.entries_mask-barred.ensures)
