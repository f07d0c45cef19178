use Rattle.page.specs.Pages.{pair_at}
use Rattle.std.proofs.Common.{rules}
use Rattle.page.proofs.pair_at.Goals as goal

pub returns : goal.returns
unfolding pair_at
returns c = search rules
