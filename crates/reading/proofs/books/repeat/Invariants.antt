use Rattle.std.proofs.Common.{◌≤◌}
use Rattle.reading.proofs.books.repeat.Given as goal

abbrev pub invariant-loop : goal.invariant-loop
invariant-loop l = l.to ≤ 11900
