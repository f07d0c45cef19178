use Rattle.std.proofs.Common.{◌≡◌, ℕ}
use Rattle.masks.specs.declared.Masks.{Masks}
use Rattle.prepare.specs.Packing.{PackedTo}
use Rattle.prepare.proofs.pack_rows.Given as goal

abbrev pub invariant-loop-k : goal.invariant-loop-k
invariant-loop-k g l = (f : ℕ → Masks) → ((k : ℕ) (r : Masks) → goal.F-post g l.row k r → r ≡ f k) → PackedTo f l.n l.initial.words l.words l.k
