use Prim.Native.Nat.{◌+◌, ◌*◌}
use Rattle.logic.proofs.Stores.{Putting}
use Rattle.fields.proofs.Puts.{field_at}
use Rattle.fields.proofs.put_numbers.Given as goal

abbrev pub invariant-loop-i : goal.invariant-loop-i
invariant-loop-i l = Putting (field_at l.t l.from) l.w l.initial.buf l.at l.buf (l.at + l.i * 4) l.i
