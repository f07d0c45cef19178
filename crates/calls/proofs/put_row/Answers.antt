use Rattle.calls.proofs.Calls.{row-put}
use Rattle.calls.proofs.put_row.Goals as goal

pub returns : goal.returns
returns c = row-put _ _ _ _ c.requires c.copy_from_slice.ensures.len c.copy_from_slice.ensures.after
