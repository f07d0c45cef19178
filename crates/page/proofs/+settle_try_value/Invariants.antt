use Rattle.page.specs.Sought.{sought}
use Rattle.std.proofs.Common.{◌-◌, ◌*◌}
use Rattle.masks.specs.Views.{MaskView}
use Rattle.page.proofs.Search.{Trying}
use Rattle.page.proofs.+settle_try_value.Given as goal

abbrev pub decreases-settle : goal.decreases-settle
decreases-settle l = l.left * 2

abbrev pub decreases-try_value : goal.decreases-try_value
decreases-try_value l = l.left * 2 - 1

abbrev pub invariant-settle-loop-value : goal.invariant-settle-loop-value
invariant-settle-loop-value l = Trying (MaskView l.book.rules.words.now l.book.rules.count l.book.ranks.now) (sought l.book.rules.count l.task) (l.a.left - 1) l.next l.initial.r.at l.initial.out l.value-index l.r.at l.out
