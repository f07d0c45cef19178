use borrow.Author.Rules.{rules}
use native.Mathlib.Omega.{arith}
use Rattle.least.proofs.Steps.{answers-none, answers-turn, asking-here, asking-none}
use Rattle.least.proofs.asking.Goals as goal

pub loop-k-init : goal.loop-k-init
loop-k-init c = answers-none _ _ _

pub returns-then-unanswered : goal.returns-then-unanswered
returns-then-unanswered c = asking-here _ _ _ c.loop-k.k (omega arith) _ _ c.row_at.ensures c.unanswered.ensures (search rules) (search rules)

pub loop-k-preserved : goal.loop-k-preserved
loop-k-preserved c = answers-turn _ _ _ c.loop-k.k (omega arith) _ _ c.row_at.ensures c.unanswered.ensures c.loop-k.invariant (search rules)

pub returns : goal.returns
returns c = asking-none _ _ _ c.loop-k.k (omega arith) c.loop-k.invariant
