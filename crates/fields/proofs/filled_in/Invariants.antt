use Prim.Native.Nat.{◌+◌, ◌≤◌}
use mathlib.Core.Path.{◌≡◌}
use lib.ListN.{drop}
use Rattle.text.specs.Lines.{filled_in}
use Rattle.fields.proofs.filled_in.Given as goal

abbrev pub invariant-loop-v : goal.invariant-loop-v
invariant-loop-v l = (l.n ≤ l.v-index) × (l.n + filled_in (drop l.v-index l.t) ≡ filled_in l.t)
