use mathlib.Core.Path.{◌≡◌}
use Prim.Native.Nat.{◌+◌, ◌-◌, ◌≤◌}
use Rattle.meaning.specs.Meant.{entries_at}
use Rattle.bridge.specs.Packed.{mask_all}
use Rattle.prepare.proofs.entries_mask.Given as goal

abbrev pub invariant-loop-i : goal.invariant-loop-i
invariant-loop-i l = (l.i ≤ l.n) × (l.m ≡ mask_all (entries_at l.rows (l.from + l.i) (l.n - l.i)))
