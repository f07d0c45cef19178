use native.Mathlib.Omega.{arith}
use borrow.Author.Rules.{rules}
use Rattle.masks.proofs.Tests.{level-turn, level-lost, level-won}
use Rattle.masks.proofs.level.Goals as goal

pub returns-then-not-level_at : goal.returns-then-not-level_at
returns-then-not-level_at c = level-lost c.args.ranks.now c.loop-a.a _ _ c.level_at.ensures (omega arith) (search rules)

pub loop-a-preserved : goal.loop-a-preserved
loop-a-preserved c = level-turn c.args.ranks.now c.loop-a.a _ _ c.level_at.ensures c.loop-a.invariant (search rules)

pub returns : goal.returns
returns c = level-won c.args.ranks.now c.loop-a.a _ (search rules) c.loop-a.invariant
