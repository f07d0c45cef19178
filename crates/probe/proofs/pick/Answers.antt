use Rattle.probe.proofs.Nodes.{pick-heaviest, pick-any}
use Rattle.std.proofs.Common.{rules}
use Rattle.probe.proofs.pick.Goals as goal

pub returns-then-within : goal.returns-then-within
returns-then-within c = pick-heaviest _ _ c.minus-free.ensures _ _ _ _ c.one-m.ensures c.within.ensures (search rules)

pub returns : goal.returns
returns c = pick-any _ _ c.minus-free.ensures _ c.single.ensures
