use Rattle.least.proofs.Steps.{given-none, given-one}
use borrow.Author.Rules.{rules}
use Rattle.least.proofs.given.Goals as goal

pub returns-then-apart : goal.returns-then-apart
returns-then-apart c = given-none _ _ _ _ c.apart.ensures (search rules)

pub returns-then-lone : goal.returns-then-lone
returns-then-lone c = given-one _ _ _ _ _ c.meet-m.ensures c.lone.ensures (search rules) c.into.ensures
