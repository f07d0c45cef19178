use Rattle.few.proofs.Sorting.{Putting}
use Rattle.few.proofs.put_sorted.Given as goal

abbrev pub invariant-loop-place : goal.invariant-loop-place
invariant-loop-place l = Putting l.store l.k l.room l.at l.initial.out l.place l.next l.out
