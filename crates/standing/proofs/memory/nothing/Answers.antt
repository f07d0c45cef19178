use Rattle.standing.proofs.Domination.{nothing_yet}
use Rattle.standing.proofs.memory.nothing.Goals as goal

pub returns : goal.returns
returns c = λ ws n ranks root. nothing_yet ws n ranks root 32 8 0 0
