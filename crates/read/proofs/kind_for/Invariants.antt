use Rattle.book.specs.Kinds.{kinds}
use mathlib.Core.Path.{◌≡◌}
use lib.ListN.{drop}
use Rattle.text.specs.Lines.{seek, kind_for}
use Rattle.read.proofs.kind_for.Given as goal

abbrev pub invariant-loop-k : goal.invariant-loop-k
invariant-loop-k l = (seek l.b l.k (drop l.k kinds) ≡ kind_for l.next l.b)
