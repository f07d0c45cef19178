use Rattle.ways.specs.Stands.{Stood}
use Rattle.ways.proofs.rest.Given as goal

abbrev pub invariant-loop-stand : goal.invariant-loop-stand
invariant-loop-stand l = Stood l.text l.words l.ranks l.s l.left l.stand

abbrev pub decreases-loop-stand : goal.decreases-loop-stand
decreases-loop-stand l = l.left
