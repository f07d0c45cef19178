use mathlib.Core.Path.{sym, ap}
use Rattle.answers.specs.Operations.{told_of}
use Rattle.across.specs.Across.{amount_in}
use Rattle.across.proofs.AmountFromResultUsizeRefusal.from.Goals as goal

pub returns-in-Ok : goal.returns-in-Ok
unfolding amount_in told_of
returns-in-Ok c = sym (ap amount_in (ap told_of c.in-Ok.is))

pub returns-in-Err : goal.returns-in-Err
unfolding amount_in told_of
returns-in-Err c = sym (ap amount_in (ap told_of c.in-Err.is))
