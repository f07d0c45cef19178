use lib.ListN.{length}
use Rattle.logic.proofs.Stores.{Putting}
use Rattle.line.proofs.PutLaws.{mark_at}
use Rattle.line.proofs.put_marks.Given as goal

abbrev pub invariant-loop-i : goal.invariant-loop-i
invariant-loop-i l = Putting (mark_at l.p) (length l.initial.buf) l.initial.buf 0 l.buf l.i l.i
