use mathlib.Core.Path.{◌≡◌}
use native.Mathlib.Omega.{arith}
use borrow.Author.Rules.{rules}
use Rattle.book.specs.Kinds.{kind, row_once}
use Rattle.book.proofs.Counts.{once-small}
use Rattle.book.proofs.total.Goals as goal

pub sum_to-requires-clause-small : goal.sum_to-requires-clause-small
sum_to-requires-clause-small c = λ i r h p. let e : r ≡ row_once (kind i) = search rules in omega (arith, e, once-small (kind i))
