use Rattle.masks.proofs.Booleans.{refused, granted}
use Rattle.page.proofs.Search.{finish-equal, finish-not, finish-put}
use Rattle.std.proofs.Common.{rules}
use Rattle.page.proofs.finish.Goals as goal

pub returns-then-node : goal.returns-then-node
returns-then-node c = finish-equal _ _ _ _ _ c.requires.1 (search rules)

pub returns-then-not-is_view : goal.returns-then-not-is_view
returns-then-not-is_view c = finish-not _ _ _ _ _ c.requires.1 (search rules) (refused c.is_view.ensures (search rules))

pub returns : goal.returns
returns c = finish-put _ _ _ _ _ c.requires.1 (search rules) _ _ (granted c.is_view.ensures (search rules)) c.put_next.ensures
