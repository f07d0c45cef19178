use Rattle.std.specs.Prelude.{◌≡◌}
use Rattle.walk.specs.Walks.{Skipping}
use Rattle.walk.proofs.past_ruled_out.Given as goal

abbrev pub invariant-loop-place : goal.invariant-loop-place
invariant-loop-place l = Skipping l.x l.root l.marks l.fn.p l.r × (l.r.place ≡ l.place)
