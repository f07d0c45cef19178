use Rattle.std.proofs.Common.{◌+◌, ◌-◌, ◌≤◌, ◌≡◌, length}
use Rattle.ways.proofs.streams.send.Given as goal

-- The output has taken the first `done` bytes.
abbrev pub invariant-loop-done : goal.invariant-loop-done
invariant-loop-done l = (l.done ≤ length l.bytes) × (l.out.taken ≡ l.initial.out.taken + l.done)

-- Each turn some bytes are taken or some patience is lost.
abbrev pub decreases-loop-done : goal.decreases-loop-done
decreases-loop-done l = (length l.bytes - l.done) + l.patience
