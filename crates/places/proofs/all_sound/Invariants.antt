use Rattle.std.proofs.Common.{◌≤◌}
use Rattle.places.proofs.all_sound.Given as goal

abbrev pub invariant-loop-place : goal.invariant-loop-place
invariant-loop-place g l = l.count ≤ l.place
