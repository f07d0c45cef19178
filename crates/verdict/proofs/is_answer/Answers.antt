use Rattle.verdict.proofs.Tests.{answer-clash, answer-broken, answer-founded}
use borrow.Author.Rules.{rules}
use Rattle.verdict.proofs.is_answer.Goals as goal

pub returns-then-held-denied-ne0 : goal.returns-then-held-denied-ne0
returns-then-held-denied-ne0 c = answer-clash _ _ _ (search rules)

pub returns-then-not-obeys_all : goal.returns-then-not-obeys_all
returns-then-not-obeys_all c = answer-broken _ _ _ _ c.obeys_all.ensures (search rules)

pub returns : goal.returns
returns c = answer-founded _ _ _ _ _ (search rules) c.obeys_all.ensures (search rules) c.founded.ensures
