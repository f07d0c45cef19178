use Rattle.standing.specs.Standing.{Shut}
use Rattle.bounds.specs.Sound.{Keeps}
use Rattle.standing.proofs.bans.shut.Given as goal

abbrev pub invariant-loop-j : goal.invariant-loop-j
invariant-loop-j l = Keeps (Shut l.rules.words.now l.rules.count l.m l.s l.t) l.initial.o l.o
