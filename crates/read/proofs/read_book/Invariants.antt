use Prim.Native.Nat.{◌-◌}
use lib.ListN.{length}
use Rattle.read.proofs.Going.{Going}
use Rattle.read.proofs.read_book.Given as goal

abbrev pub invariant-loop-c : goal.invariant-loop-c
invariant-loop-c l = Going l.text l.initial.c l.initial.t l.t l.st l.c l.to

abbrev pub decreases-loop-c : goal.decreases-loop-c
decreases-loop-c l = length l.text - l.c.at
