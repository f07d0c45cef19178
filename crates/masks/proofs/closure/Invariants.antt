use Prim.Native.Nat.{◌-◌, ◌*◌, ◌^◌}
use Rattle.sets.specs.Sets.{Within}
use Rattle.masks.proofs.Sums.{total}
use Rattle.masks.proofs.Closures.{Below}
use Rattle.masks.proofs.closure.Given as goal

abbrev pub invariant-loop-b : goal.invariant-loop-b
invariant-loop-b l = (Within l.b.hi.taken l.c.taken) × Below l.rules.words.now l.rules.count l.b l.c

abbrev pub decreases-loop-b : goal.decreases-loop-b
decreases-loop-b l = 3 * 2 ^ 64 - total l.c
