use mathlib.Core.Path.{refl}
use Rattle.calls.specs.Calls.{call_at}
use Rattle.calls.proofs.Calls.{called-found, called-end, called-refused}
use borrow.Author.Rules.{rules}
use Rattle.calls.proofs.one_call.Goals as goal

pub returns-in-Ok-Some : goal.returns-in-Ok-Some
unfolding call_at
returns-in-Ok-Some c = called-found _ _ _ _ _ _ _ _ _ c.answer-a.ensures c.put_answer.ensures _ _ (search rules) c.put.ensures

pub returns-in-Ok-None : goal.returns-in-Ok-None
unfolding call_at
returns-in-Ok-None c = called-end _ _ _ _ _ _ _ _ _ c.answer-a.ensures c.put_answer.ensures _ refl (search rules)

pub returns-in-Err : goal.returns-in-Err
unfolding call_at
returns-in-Err c = called-refused _ _ _ _ _ _ _ _ _ c.answer-a.ensures c.put_answer.ensures c.in-Err.field-0 _ refl c.in-Err.is
