use mathlib.Core.Path.{◌≡◌}
use Rattle.order.proofs.Following.{next-none, more-positive, more-follows, same-positive, sum_fits, same-follows}
use borrow.Author.Rules.{rules}
use Rattle.order.proofs.next.Goals as goal

pub returns-then-t-eq0 : goal.returns-then-t-eq0
returns-then-t-eq0 c = let z : c.args.t ≡ 0 = search rules in rw z (next-none _ c.requires.0)

pub overflow_sub-result : goal.overflow_sub-result
overflow_sub-result c = more-positive _ _ _ _ _ c.requires.0 c.lowest_run-run.ensures (search rules)

pub returns-then-x-run : goal.returns-then-x-run
returns-then-x-run c = more-follows _ _ _ _ _ c.requires.0 c.lowest_run-run.ensures (search rules)

pub overflow_sub-result-3 : goal.overflow_sub-result-3
overflow_sub-result-3 c = same-positive _ _ _ _ _ c.requires.0 c.lowest_run-run.ensures (search rules)

pub overflow_add-result-2 : goal.overflow_add-result-2
overflow_add-result-2 c = record { fits = sum_fits _ _ _ _ _ c.requires.0 c.lowest_run-run.ensures (search rules) }

pub returns : goal.returns
returns c = same-follows _ _ _ _ _ c.requires.0 c.lowest_run-run.ensures (search rules)
