use Rattle.points.proofs.Scans.{Counting}
use Rattle.points.proofs.entries.Given as goal

abbrev pub invariant-loop-k : goal.invariant-loop-k
invariant-loop-k l = Counting l.store l.k
