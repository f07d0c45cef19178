use Rattle.standing.proofs.Domination.{searched-found, searched-none}
use borrow.Author.Rules.{rules}
use Rattle.standing.proofs.undominated.Goals as goal

pub returns-in-Some : goal.returns-in-Some
returns-in-Some c = searched-found _ _ _ _ _ _ _ _ c.superior.ensures _ _ (search rules) _ c.ranking.ensures c.forbid.ensures

pub returns-in-None : goal.returns-in-None
returns-in-None c = searched-none _ _ _ _ _ _ _ _ c.superior.ensures _ (search rules) (search rules) c.allow.ensures
