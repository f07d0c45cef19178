use Rattle.sifting.proofs.Sifting.{sift-settled, sift-none}
use Rattle.std.proofs.Common.{rules}
use Rattle.sifting.proofs.list_standing.Goals as goal

pub returns-then-task-at : goal.returns-then-task-at
returns-then-task-at c = sift-none _ _ _ _ _ _ _ _ _ _ c.requires.0.place (search rules)

pub returns : goal.returns
returns c = sift-settled _ _ _ _ _ _ _ _ _ _ _ _ _ _ c.start-node.ensures c.settle.ensures
