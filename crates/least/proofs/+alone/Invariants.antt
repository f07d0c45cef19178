use Rattle.bounds.proofs.Halves.{room}
use Rattle.least.proofs.+alone.Given as goal

abbrev pub decreases-alone : goal.decreases-alone
decreases-alone l = room l.x
