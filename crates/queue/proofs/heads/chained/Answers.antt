use borrow.Author.Rules.{rules}
use Rattle.queue.proofs.Chains.{chains-none, chains-turn, chains-done}
use Rattle.queue.proofs.heads.chained.Goals as goal
use Rattle.logic.proofs.Decide.{clash}

pub loop-k-init : goal.loop-k-init
loop-k-init c = (search rules, λ e. chains-none _ _ _)

pub loop-k-preserved-then-not-chain : goal.loop-k-preserved-then-not-chain
loop-k-preserved-then-not-chain c = (search rules, λ e. absurd (clash e))

pub loop-k-preserved : goal.loop-k-preserved
loop-k-preserved c = (search rules, chains-turn _ _ _ _ c.loop-k.invariant.0 _ _ _ (search rules) (search rules) (search rules) c.requires.0 c.loop-k.invariant.1 _ c.masks_at.ensures _ c.chain.ensures (search rules))

pub returns : goal.returns
returns c = chains-done _ _ _ _ _ (search rules) c.loop-k.invariant.1
