use Rattle.one_set.proofs.Sets.{lined-marked, lined-unseen, lined-exceeded, lined-open}
use Rattle.std.proofs.Common.{rules}
use Rattle.one_set.proofs.list_lined.Goals as goal

pub returns-then-is_marked : goal.returns-then-is_marked
returns-then-is_marked c = lined-marked _ _ _ _ _ _ _ _ c.requires.0.place _ _ _ (c.is_marked.ensures.yes (search rules))

pub returns-in_default : goal.returns-in_default
returns-in_default c = lined-unseen _ _ _ _ _ _ _ _ c.requires.0.place _ _ _ _ _ _ c.look.ensures c.in_default.is

pub returns-then-not-none_below : goal.returns-then-not-none_below
returns-then-not-none_below c = lined-exceeded _ _ _ _ _ _ _ _ c.requires.0.place _ _ _ _ _ _ c.look.ensures _ c.in-Some.is _ _ c.none_below.ensures (search rules) _ c.mark_above.ensures

pub returns : goal.returns
returns c = lined-open _ _ _ _ _ _ _ _ c.requires.0.place _ _ _ _ _ _ c.look.ensures _ c.in-Some.is _ _ c.none_below.ensures (search rules) (c.is_marked.ensures.no c.if-is_marked.false) _ _ _ _ c.list_open.ensures
