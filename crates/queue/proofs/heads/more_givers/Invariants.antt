use Rattle.queue.proofs.Rows.{SeenBut}
use Rattle.queue.proofs.heads.more_givers.Given as goal

abbrev pub invariant-loop-i : goal.invariant-loop-i
invariant-loop-i l = SeenBut l.rules.words.now l.rules.count l.c l.m l.b l.i-iterator.rest l.h
