use Rattle.std.proofs.Common.{take}
use Rattle.points.proofs.Scans.{Finding}
use Rattle.points.proofs.find.Given as goal

abbrev pub invariant-loop-i : goal.invariant-loop-i
invariant-loop-i l = Finding l.store l.k (take 8 l.name) l.i
