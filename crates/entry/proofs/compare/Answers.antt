use borrow.Author.Rules.{rules}
use Rattle.entry.proofs.Orders.{compare_start, compare-differs, compare-next, compare-end}
use Rattle.entry.proofs.compare.Goals as goal

pub loop-i-init : goal.loop-i-init
loop-i-init c = compare_start _ _

pub returns-then-x-y : goal.returns-then-x-y
returns-then-x-y c = compare-differs c.args.a.now c.args.b.now c.loop-i.i (search rules) (search rules) (search rules) c.loop-i.invariant (search rules) _ c.cmp.ensures

pub loop-i-preserved : goal.loop-i-preserved
loop-i-preserved c = compare-next c.args.a.now c.args.b.now c.loop-i.i (search rules) (search rules) (search rules) c.loop-i.invariant (search rules)

pub returns : goal.returns
returns c = compare-end _ _ c.loop-i.i (search rules) c.loop-i.invariant
