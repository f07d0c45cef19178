use mathlib.Core.Path.{ap}
use Rattle.book.specs.declared.Kind.{Kind}
use borrow.Author.Rules.{rules}
use Rattle.read.proofs.States.{step_row, step_other}
use Rattle.read.proofs.stepped.Goals as goal

pub returns-then-kind_at : goal.returns-then-kind_at
returns-then-kind_at c = step_row _ c.args.k (ap (λ (x : Kind). x.row) c.kind_at.ensures) c.args.st _ (search rules)

pub returns : goal.returns
returns c = step_other _ c.args.k (ap (λ (x : Kind). x.row) c.kind_at.ensures) c.args.st _ (search rules)
