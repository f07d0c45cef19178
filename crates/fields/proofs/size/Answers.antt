use native.Mathlib.Omega.{arith}
use Rattle.fields.proofs.Columns.{size_is}
use borrow.Author.Rules.{rules}
use Rattle.fields.proofs.size.Goals as goal

pub returns : goal.returns
returns c = (size_is _ _ _ _ c.digit.result c.digit-2.result c.digit-3.result c.digit-4.result (search rules) (search rules) (search rules) (search rules), omega arith)
