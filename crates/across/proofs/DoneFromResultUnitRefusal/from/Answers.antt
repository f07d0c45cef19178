use mathlib.Core.Path.{sym, ap}
use Rattle.across.specs.Across.{done_of}
use Rattle.across.proofs.DoneFromResultUnitRefusal.from.Goals as goal

pub returns-in-Ok : goal.returns-in-Ok
unfolding done_of
returns-in-Ok c = sym (ap done_of c.in-Ok.is)

pub returns-in-Err : goal.returns-in-Err
unfolding done_of
returns-in-Err c = sym (ap done_of c.in-Err.is)
