use Rattle.admissible.proofs.Superiors.{free-apart, free-asked}
use Rattle.std.proofs.Common.{rules}
use Rattle.admissible.proofs.undominated_at.Goals as goal

pub returns-then-rank-taken-eq0 : goal.returns-then-rank-taken-eq0
returns-then-rank-taken-eq0 c = free-apart _ _ _ _ _ _ _ (search rules)

pub returns : goal.returns
returns c = free-asked _ _ _ _ _ _ _ c.if-rank-taken-eq0.false _ c.one.ensures _ c.into-b.ensures _ c.ask.ensures _ c.is_none.ensures
