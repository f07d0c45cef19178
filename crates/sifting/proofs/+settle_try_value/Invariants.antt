use Rattle.page.specs.Sought.{sought}
use Rattle.std.proofs.Common.{◌-◌, ◌*◌}
use Rattle.sifting.proofs.Sifting.{Sifting}
use Rattle.sifting.proofs.+settle_try_value.Given as goal

abbrev pub decreases-settle : goal.decreases-settle
decreases-settle l = l.left * 2

abbrev pub decreases-try_value : goal.decreases-try_value
decreases-try_value l = l.left * 2 - 1

abbrev pub invariant-settle-loop-value : goal.invariant-settle-loop-value
invariant-settle-loop-value l = Sifting l.book.rules.words.now l.book.ranks.now l.root (sought l.book.rules.count l.task) (l.left - 1) l.node l.initial.r.at l.initial.out l.initial.memory l.value-index l.r.at l.out l.memory
