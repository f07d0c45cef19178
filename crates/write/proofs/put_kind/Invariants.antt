use Rattle.book.specs.Kinds.{kind}
use mathlib.Core.Path.{◌≡◌}
use Prim.Native.Nat.{◌+◌, ◌*◌}
use Rattle.logic.proofs.Stores.{Putting}
use Rattle.write.proofs.PutLaws.{line_at}
use Rattle.write.proofs.put_kind.Given as goal

abbrev pub invariant-loop-i : goal.invariant-loop-i
invariant-loop-i l = (l.f ≡ l.from + l._i * (kind l.k).numbers) × Putting (line_at l.k l.t l.from) l.c l.initial.buf l.at l.buf l.a l._i
