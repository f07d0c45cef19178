use Rattle.page.proofs.Statements.{fixed-keeps}
use Rattle.page.proofs.fixed.Goals as goal

pub returns : goal.returns
returns c = fixed-keeps _ _ _ _ _ _ _ _ c.said-m.ensures c.into.ensures c.about.ensures c.minus.ensures c.out.ensures
