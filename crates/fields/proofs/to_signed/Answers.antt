use native.Mathlib.Omega.{arith}
use borrow.Author.Rules.{rules}
use Rattle.fields.proofs.Columns.{neg_value, pos-value}
use Rattle.fields.proofs.to_signed.Goals as goal

pub returns-then-neg : goal.returns-then-neg
returns-then-neg c = neg_value c.args.neg c.args.v (omega arith) (search rules)

pub returns-else-neg : goal.returns-else-neg
returns-else-neg c = pos-value c.args.neg c.args.v (omega arith) (search rules)
