use Rattle.std.proofs.Common.{◌≤◌}
use Rattle.ranges.proofs.core_around.Given as goal

abbrev pub invariant-loop : goal.invariant-loop
invariant-loop l = l.end ≤ 64
