use Rattle.standing.proofs.Barring.{Spares}
use Rattle.standing.proofs.bans.in_turn.Given as goal

abbrev pub invariant-loop : goal.invariant-loop
invariant-loop l = Spares l.book.rules.words.now l.book.rules.count l.book.ranks.now l.mem l.initial.r.bounds l.r.bounds
