use borrow.Author.Rules.{rules}
use borrow.Author.Tests.{eq-eqb}
use mathlib.Core.Path.{◌∙◌}
use Rattle.entry.proofs.Leaves.{follows-space, follows-letter, follows-none}
use Rattle.entry.proofs.follows.Goals as goal

pub returns-then-b-eq32 : goal.returns-then-b-eq32
returns-then-b-eq32 c = eq-eqb _ _ (search rules) ∙ follows-space _ _ (search rules)

pub returns-then-is_letter : goal.returns-then-is_letter
returns-then-is_letter c = follows-letter _ _ (search rules) c.is_letter.result _ c.is_letter.ensures (search rules) (search rules)

pub returns-else-is_letter : goal.returns-else-is_letter
returns-else-is_letter c = follows-none _ _ (search rules) _ c.is_letter.ensures (search rules)
