use Rattle.superior.proofs.+superior.Given as goal

abbrev pub decreases-superior : goal.decreases-superior
decreases-superior l = l.free
