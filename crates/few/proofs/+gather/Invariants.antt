use Rattle.bounds.proofs.Halves.{room}
use Rattle.few.proofs.+gather.Given as goal

abbrev pub decreases-gather : goal.decreases-gather
decreases-gather l = room l.b
