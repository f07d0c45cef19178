use Prim.Native.Nat.{◌-◌, ◌^◌}
use mathlib.Core.Path.{◌≡◌}
use Rattle.sets.specs.Sets.{bit_of}
use Rattle.masks.specs.Steps.{LedTo}
use Rattle.masks.proofs.lines.reach.Given as goal

abbrev pub invariant-loop-o : goal.invariant-loop-o
invariant-loop-o l = (c : _) → bit_of l.o c ≡ 1 → LedTo l.rules.words.now l.rules.count l.ranks l.m l.t c

abbrev pub decreases-loop-o : goal.decreases-loop-o
decreases-loop-o l = 2 ^ 64 - l.o
