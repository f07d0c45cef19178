use Rattle.page.proofs.Search.{list_full, list-settled}
use Rattle.std.proofs.Common.{rules}
use Rattle.page.proofs.list_views.Goals as goal

pub returns-then-task-at : goal.returns-then-task-at
returns-then-task-at c = list_full _ _ _ _ _ _ _ c.requires.place (search rules)

pub returns : goal.returns
returns c = list-settled _ _ _ _ _ _ _ _ c.start-node.ensures _ _ c.settle.ensures
