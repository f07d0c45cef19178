use Rattle.sifting.proofs.Sifting.{sift-equal, sift-no-view, sift-fallen, sift-put}
use Rattle.std.proofs.Common.{rules}
use Rattle.sifting.proofs.finish.Goals as goal

pub returns-then-node : goal.returns-then-node
returns-then-node c = sift-equal _ _ _ _ _ _ _ _ c.requires.1 (search rules)

pub returns-then-not-is_view : goal.returns-then-not-is_view
returns-then-not-is_view c = sift-no-view _ _ _ _ _ _ _ _ c.requires.1 (search rules) _ c.is_view.ensures (search rules)

pub returns-then-not-stands : goal.returns-then-not-stands
returns-then-not-stands c = sift-fallen _ _ _ _ _ _ _ _ c.requires.1 (search rules) _ c.is_view.ensures _ _ c.stands.ensures (search rules)

pub returns : goal.returns
returns c = sift-put _ _ _ _ _ _ _ _ c.requires.1 (search rules) _ c.is_view.ensures _ _ c.stands.ensures (search rules) (search rules) _ _ c.put_next.ensures
