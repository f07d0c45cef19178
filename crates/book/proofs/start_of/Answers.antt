use mathlib.Core.Path.{◌≡◌}
use native.Mathlib.Omega.{arith}
use borrow.Author.Rules.{rules}
use Rattle.book.specs.Kinds.{kind}
use Rattle.book.proofs.Counts.{numbers-narrow}
use Rattle.book.proofs.start_of.Goals as goal

pub sum_to-requires-clause-small : goal.sum_to-requires-clause-small
sum_to-requires-clause-small c = λ i r h p. let e : r ≡ (kind i).numbers = search rules in omega (arith, e, numbers-narrow i h)
