use Rattle.book.specs.Kinds.{first, last, front}
use mathlib.Core.Path.{◌≡◌}
use Prim.Native.Nat.{◌+◌, ◌-◌, ◌<◌}
use Rattle.logic.proofs.Stores.{Putting}
use Rattle.book.specs.Counts.{start_of}
use Rattle.write.proofs.PutLaws.{block_at}
use Rattle.write.proofs.put_rows.Given as goal

abbrev pub invariant-loop-k : goal.invariant-loop-k
invariant-loop-k l = (first < l.k) × (l.f ≡ front + start_of l.s l.k) × Putting (block_at l.s l.t) (last - 1) l.initial.buf l.at l.buf l.a (l.k - 1)
