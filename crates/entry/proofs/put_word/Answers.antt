use mathlib.Core.Path.{◌∙◌}
use Rattle.entry.proofs.Leaves.{word-put}
use Rattle.entry.proofs.put_word.Goals as goal

pub returns : goal.returns
returns c = word-put _ _ _ _ c.requires (c.copy_from_slice.ensures.after ∙ c.to_le_bytes.ensures)
