use Rattle.standing.proofs.Attempting.{stands-within}
use Rattle.standing.proofs.search_shaved.Goals as goal

pub returns : goal.returns
returns c = stands-within c.propagate-rest.ensures c.shaved-r.ensures c.search.ensures
