use Rattle.least.proofs.Steps.{lacking-one}
use borrow.Author.Rules.{rules}
use Rattle.least.proofs.lacking.Goals as goal

pub returns-then-lone : goal.returns-then-lone
returns-then-lone c = lacking-one _ _ _ _ _ c.minus-m.ensures c.lone.ensures (search rules) c.out.ensures
