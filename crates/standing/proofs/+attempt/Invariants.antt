use Rattle.bounds.proofs.Halves.{room}
use Rattle.standing.proofs.+attempt.Given as goal

abbrev pub decreases-attempt : goal.decreases-attempt
decreases-attempt l = room l.b
