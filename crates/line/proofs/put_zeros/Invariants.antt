use Prim.Native.Nat.{◌*◌}
use Rattle.logic.proofs.Stores.{Putting}
use Rattle.line.proofs.PutLaws.{zero_field}
use Rattle.line.proofs.put_zeros.Given as goal

abbrev pub invariant-loop-i : goal.invariant-loop-i
invariant-loop-i l = Putting zero_field l.w l.initial.buf 0 l.buf (l.i * 4) l.i
