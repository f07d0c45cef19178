use Rattle.judge.proofs.Tests.{judged-1, judged-2, judged-3, judged-4, judged-5, judged-0}
use borrow.Author.Rules.{rules}
use Rattle.judge.proofs.verdict.Goals as goal

pub returns-then-not-is_answer : goal.returns-then-not-is_answer
returns-then-not-is_answer c = judged-1 _ _ _ _ _ _ c.is_answer.ensures (search rules)

pub returns-then-not-unranked : goal.returns-then-not-unranked
returns-then-not-unranked c = judged-2 _ _ _ _ _ _ c.is_answer.ensures (search rules) _ c.unranked.ensures (search rules)

pub returns-then-not-bodies : goal.returns-then-not-bodies
returns-then-not-bodies c = judged-3 _ _ _ _ _ _ c.is_answer.ensures (search rules) _ c.unranked.ensures (search rules) _ c.bodies.ensures (search rules)

pub returns-then-not-undominated : goal.returns-then-not-undominated
returns-then-not-undominated c = judged-4 _ _ _ _ _ _ c.is_answer.ensures (search rules) _ c.unranked.ensures (search rules) _ c.bodies.ensures (search rules) _ c.undominated.ensures (search rules)

pub returns-then-not-minimal : goal.returns-then-not-minimal
returns-then-not-minimal c = judged-5 _ _ _ _ _ _ c.is_answer.ensures (search rules) _ c.unranked.ensures (search rules) _ c.bodies.ensures (search rules) _ c.undominated.ensures (search rules) _ c.minimal.ensures (search rules)

pub returns : goal.returns
returns c = judged-0 _ _ _ _ _ _ c.is_answer.ensures (search rules) _ c.unranked.ensures (search rules) _ c.bodies.ensures (search rules) _ c.undominated.ensures (search rules) _ c.minimal.ensures (search rules)
