use Rattle.fields.proofs.Numbers.{see-statements, see-exception, see-total, see-edition, see-literal}
use mathlib.Core.Logic.{⊎_elim}
use borrow.Author.Rules.{rules}
use Rattle.fields.proofs.see.Goals as goal

pub returns-in-Statements : goal.returns-in-Statements
returns-in-Statements c = see-statements _ _ _ _ _ (search rules) _ (search rules) c.to_nat.ensures.0

pub returns-in-Exception : goal.returns-in-Exception
returns-in-Exception c = see-exception _ _ _ _ _ (search rules) _ (search rules) c.at_most.ensures

pub returns-in-Total : goal.returns-in-Total
returns-in-Total c = see-total _ _ _ _ _ (search rules) _ (search rules) c.is_count.ensures

pub returns-in-Edition : goal.returns-in-Edition
returns-in-Edition c = ⊎_elim (λ e. see-edition _ _ _ _ _ (search rules) e) (λ e. see-literal _ _ _ _ _ (search rules) e) c.in-Edition.is
