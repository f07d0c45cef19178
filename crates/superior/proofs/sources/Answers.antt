use Rattle.std.proofs.Common.{rules}
use Rattle.masks.proofs.Steps.{passing-chosen}
use Rattle.superior.proofs.sources.Goals as goal

pub returns : goal.returns
returns c = passing-chosen _ _ (λ j o h p. search rules) c.passing.ensures
