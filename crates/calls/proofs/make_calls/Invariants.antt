use Prim.Native.Nat.{◌≤◌}
use Rattle.calls.specs.Calls.{as_point, Makes}
use Rattle.calls.proofs.make_calls.Given as goal

abbrev pub invariant-loop-k : goal.invariant-loop-k
invariant-loop-k l = (l.r.count ≤ l.k) × Makes l.text l.calls 0 l.k (as_point l.initial.r.spot) 0 l.initial.answers l.answers l.initial.pairs l.pairs l.r
