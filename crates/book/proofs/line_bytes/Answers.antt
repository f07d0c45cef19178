use native.Mathlib.Omega.{arith}
use borrow.Author.Rules.{rules}
use Rattle.book.proofs.Counts.{kind-small, line-bytes-is}
use Rattle.book.proofs.line_bytes.Goals as goal

pub overflow_mul-result : goal.overflow_mul-result
overflow_mul-result c = omega (arith, kind-small _ _ c.kind_at.ensures (search rules))

pub overflow_add-result : goal.overflow_add-result
overflow_add-result c = omega (arith, kind-small _ _ c.kind_at.ensures (search rules))

pub returns : goal.returns
returns c = line-bytes-is _ _ c.kind_at.ensures
