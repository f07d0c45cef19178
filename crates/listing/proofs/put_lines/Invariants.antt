use mathlib.Core.Path.{◌≡◌}
use Rattle.logic.proofs.Stores.{Putting}
use Rattle.line.specs.Parts.{line_bytes}
use Rattle.listing.proofs.Stores.{line_at}
use Rattle.listing.proofs.put_lines.Given as goal

abbrev pub invariant-loop-i : goal.invariant-loop-i
invariant-loop-i l = (l.bytes ≡ line_bytes l.w l.n) × Putting (line_at l.w l.n l.pairs) l.k l.initial.out 0 l.out l.at l.i
