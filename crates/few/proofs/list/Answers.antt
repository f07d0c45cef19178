use Rattle.std.proofs.Common.{inr, rules}
use Rattle.few.proofs.Listing.{store-listed}
use Rattle.few.proofs.list.Goals as goal

pub returns-then-k-cap : goal.returns-then-k-cap
returns-then-k-cap c = inr (search rules, search rules, store-listed _ _ _ _ _ _ _ _ _ _ c.put_sorted.ensures)
