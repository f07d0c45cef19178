-- A lent slice: what is stored from its start on is in front of the rest.
use mathlib.Core.Path.{◌≡◌, ◌∙◌}
use mathlib.Core.List.{List}
use Prim.Native.Nat.{ℕ, ◌≤◌}
use native.Mathlib.Nat.{zero-add}
use native.Mathlib.Omega.{arith}
use lib.ListN.{length}
use lib.Seq.{sets, sets-eq}
use Rattle.text.specs.Reading.{over}

-- A list stored from the start on is in front, and the rest is as it was.
pub over-sets : (l vs : List ℕ) → length vs ≤ length l → sets l 0 vs ≡ over l vs
unfolding over
over-sets l vs h = sets-eq vs l 0 (omega arith) ∙ rw zero-add
