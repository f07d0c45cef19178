use mathlib.Core.Bool.{true, false}
use Rattle.prepare.proofs.Masks.{mask-none, mask_one}
use borrow.Author.Rules.{rules}
use Rattle.prepare.proofs.entry_mask.Goals as goal

pub returns-then-i-eq0 : goal.returns-then-i-eq0
returns-then-i-eq0 c = mask-none c.args.x (search rules) _ c.statement-i.ensures (search rules)

pub returns-then-x-lt0 : goal.returns-then-x-lt0
returns-then-x-lt0 c = rw c.of_statements.ensures (mask_one c.args.x (search rules) _ c.statement-i.ensures true (search rules) (search rules))

pub returns : goal.returns
returns c = rw c.of_statements-2.ensures (mask_one c.args.x (search rules) _ c.statement-i.ensures false (search rules) (search rules))
