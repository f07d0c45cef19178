use Rattle.standing.proofs.Barring.{Leaves}
use Rattle.standing.proofs.bans.by_bans.Given as goal

abbrev pub invariant-loop-ban : goal.invariant-loop-ban
invariant-loop-ban l = Leaves l.rules.words.now l.rules.count l.ranks l.mem l.initial.o l.o
