use Rattle.bounds.proofs.Halves.{room}
use Rattle.probe.proofs.+probe.Given as goal

abbrev pub decreases-probe : goal.decreases-probe
decreases-probe l = room l.b
