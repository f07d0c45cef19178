use Prim.Native.Nat.{◌*◌, ◌≤◌}
use Rattle.logic.proofs.Stores.{Putting}
use Rattle.line.proofs.PutLaws.{member_field}
use Rattle.line.proofs.put_members.Given as goal

abbrev pub invariant-loop-i : goal.invariant-loop-i
invariant-loop-i l = (l.k ≤ l.i) × Putting (member_field l.taken) l.w l.initial.buf 0 l.buf (l.k * 4) l.i
