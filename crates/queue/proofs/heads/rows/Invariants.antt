use mathlib.Core.Path.{◌≡◌}
use Prim.Native.Nat.{◌+◌, ◌≤◌}
use lib.ListN.{length}
use Rattle.queue.specs.Places.{index_length}
use Rattle.queue.proofs.Rows.{RowsTo}
use Rattle.queue.proofs.heads.rows.Given as goal

abbrev pub invariant-loop-k : goal.invariant-loop-k
invariant-loop-k l = (l.rules.count ≤ l.c + 64) × (length l.index ≡ index_length) × RowsTo l.rules.words.now l.rules.count l.c l.initial.index l.k l.index
