use Rattle.page.proofs.Statements.{given_is}
use Rattle.page.proofs.given.Goals as goal

pub returns : goal.returns
returns c = given_is _ _ _ _ _ _ _ c.about.ensures c.minus.ensures c.said.ensures c.join.ensures
