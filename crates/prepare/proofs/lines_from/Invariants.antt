use Rattle.book.specs.Kinds.{preference_numbers}
use Prim.Native.Nat.{◌+◌, ◌-◌, ◌*◌, ◌≤◌}
use Rattle.meaning.specs.Meant.{preferences_at}
use Rattle.prepare.specs.Ranking.{LinesFrom}
use Rattle.prepare.proofs.lines_from.Given as goal

abbrev pub invariant-loop-k : goal.invariant-loop-k
invariant-loop-k l = (l.k ≤ l.initial.k) × LinesFrom (preferences_at l.rows (l.from + l.k * preference_numbers) (l.initial.k - l.k)) l.a l.set
