use borrow.Author.Rules.{rules}
use Rattle.read.proofs.LineLaws.{whole-over, whole-headless, whole-missing, whole-miscounted, whole-right}
use Rattle.read.proofs.line_fault.Goals as goal

pub returns-then-x-count : goal.returns-then-x-count
returns-then-x-count c = whole-over _ _ _ _ (search rules)

pub returns-then-headless : goal.returns-then-headless
returns-then-headless c = whole-headless _ _ _ _ (search rules) (search rules)

pub returns-then-seen : goal.returns-then-seen
returns-then-seen c = whole-missing _ _ _ _ (search rules) (search rules) (search rules)

pub returns-then-seen-2 : goal.returns-then-seen-2
returns-then-seen-2 c = whole-miscounted _ _ _ _ (search rules) (search rules) (search rules) (search rules)

pub returns : goal.returns
returns c = whole-right _ _ _ _ (search rules) (search rules) (search rules) (search rules)
