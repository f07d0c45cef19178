use Rattle.calls.proofs.Calls.{answer-other, answer-first, answer-after}
use borrow.Author.Rules.{rules}
use Rattle.calls.proofs.answer.Goals as goal

pub returns-then-kind-ne0 : goal.returns-then-kind-ne0
returns-then-kind-ne0 c = answer-other _ _ _ _ _ (search rules) c.after.ensures.result_value

pub returns-in-None : goal.returns-in-None
returns-in-None c = answer-first _ _ _ _ _ (search rules) (search rules) c.first.ensures.result_value

pub returns-in-Some : goal.returns-in-Some
returns-in-Some c = answer-after _ _ _ _ _ _ (search rules) (search rules) c.after-in-Some.ensures.result_value
