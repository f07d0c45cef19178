use Rattle.bounds.specs.Singles.{one_of, number_of}
use Rattle.queue.specs.Chains.{Seen, ChainsFrom}
use Rattle.queue.proofs.heads.count_givers.Given as goal

abbrev pub invariant-loop : goal.invariant-loop
invariant-loop l = Seen l.rules.words.now l.rules.count l.k (one_of (number_of l.fn.s) l.i) l.b l.g × ChainsFrom l.rules.words.now l.rules.count l.index 0
