use mathlib.Core.Path.{◌≡◌}
use Prim.Native.Nat.{◌^◌}
use lib.ListN.{length}
use Rattle.queue.specs.Places.{index_length}
use Rattle.queue.proofs.Rows.{Putting}
use Rattle.queue.proofs.heads.put.Given as goal

abbrev pub invariant-loop-i : goal.invariant-loop-i
invariant-loop-i l = (length l.index ≡ index_length) × (l.bit ≡ 2 ^ l.j) × Putting l.initial.index l.from l.m l.j l.i-iterator.rest l.index
