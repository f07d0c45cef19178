use Rattle.bounds.proofs.Halves.{room}
use Rattle.standing.proofs.+search.Given as goal

abbrev pub decreases-search : goal.decreases-search
decreases-search l = room l.b
