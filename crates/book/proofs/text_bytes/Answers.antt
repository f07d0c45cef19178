use mathlib.Core.Path.{◌≡◌}
use native.Mathlib.Omega.{arith}
use borrow.Author.Rules.{rules}
use Rattle.book.specs.Kinds.{kind, bytes}
use Rattle.book.proofs.Counts.{bytes-narrow}
use Rattle.book.proofs.text_bytes.Goals as goal

pub sum_to-requires-clause-small : goal.sum_to-requires-clause-small
sum_to-requires-clause-small c = λ i r h p. let e : r ≡ bytes (kind i) = search rules in omega (arith, e, bytes-narrow i h)
