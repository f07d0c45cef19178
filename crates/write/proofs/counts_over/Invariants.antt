use Rattle.book.specs.Kinds.{kinds}
use mathlib.Core.Path.{◌≡◌}
use lib.ListN.{drop}
use Rattle.logic.specs.Tests.{some}
use Rattle.text.specs.Tables.{miscount}
use Rattle.write.proofs.counts_over.Given as goal

abbrev pub invariant-loop-k : goal.invariant-loop-k
invariant-loop-k l = some (miscount l.t) (drop l.k kinds) ≡ some (miscount l.t) kinds
