use mathlib.Core.Path.{sym, ap}
use Rattle.across.specs.Across.{book_in}
use Rattle.across.proofs.BookAnswerFromResultShapeRefusal.from.Goals as goal

pub returns-in-Ok : goal.returns-in-Ok
unfolding book_in
returns-in-Ok c = sym (ap book_in c.in-Ok.is)

pub returns-in-Err : goal.returns-in-Err
unfolding book_in
returns-in-Err c = sym (ap book_in c.in-Err.is)
