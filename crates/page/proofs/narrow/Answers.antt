use Rattle.bounds.proofs.Steps.{keeps-less, keeps_then}
use Rattle.page.proofs.Statements.{fixed-views}
use Rattle.page.proofs.narrow.Goals as goal

pub returns : goal.returns
returns c = keeps_then (fixed-views _ _ _ _ _ _ _ c.fixed-c.ensures) (keeps-less (λ v g. g.view) c.propagate.ensures.keeps)
