use Rattle.calls.proofs.Calls.{found-put, end-put, refused-put}
use borrow.Author.Rules.{rules}
use Rattle.calls.proofs.put_answer.Goals as goal

pub returns-in-Ok-Some : goal.returns-in-Ok-Some
returns-in-Ok-Some c = found-put _ _ _ _ c.in-Ok-Some.p (search rules) c.put_row.ensures

pub returns-in-Ok-None : goal.returns-in-Ok-None
returns-in-Ok-None c = end-put _ _ _ _ (search rules) c.put_row-in-Ok-None.ensures

pub returns-in-Err : goal.returns-in-Err
returns-in-Err c = refused-put _ _ _ _ c.in-Err.q c.in-Err.is (rw c.from.ensures at c.put_row-in-Err.ensures)
