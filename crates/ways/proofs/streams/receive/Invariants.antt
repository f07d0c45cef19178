use Rattle.std.proofs.Common.{◌+◌, ◌-◌, ◌≤◌, ◌≡◌, length}
use Rattle.ways.proofs.streams.receive.Given as goal

abbrev pub invariant-loop-done : goal.invariant-loop-done
invariant-loop-done l = (length l.room ≡ length l.initial.room) × (l.done ≤ length l.room)

-- Each turn some bytes are read or some patience is lost.
abbrev pub decreases-loop-done : goal.decreases-loop-done
decreases-loop-done l = (length l.room - l.done) + l.patience
