use Rattle.std.proofs.Common.{◌≤◌}
use Rattle.reading.proofs.books.fill.Given as goal

abbrev pub invariant-loop-i : goal.invariant-loop-i
invariant-loop-i l = l.to ≤ 11900
