use Rattle.marking.proofs.Marks.{rank-added, rank_left}
use Rattle.std.proofs.Common.{rules}
use Rattle.marking.proofs.with_rank.Goals as goal

pub returns-then-taken-a-eq1 : goal.returns-then-taken-a-eq1
returns-then-taken-a-eq1 c = rank-added _ _ _ _ (search rules)

pub returns : goal.returns
returns c = rank_left _ _ _ _
