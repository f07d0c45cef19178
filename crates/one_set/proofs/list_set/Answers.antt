use Rattle.std.proofs.Common.{rules}
use Rattle.one_set.proofs.list_set.Goals as goal

pub returns : goal.returns
returns c = c.list_plain.ensures (c.lined.ensures.no (search rules)) _
