use Rattle.lawful.proofs.Tests.{past-x, past-held, past-denied, both-signs, none-applies}
use borrow.Author.Rules.{rules}
use Rattle.lawful.proofs.check.Goals as goal
use Rattle.lawful.proofs.check.Goals.{then-p-statements-ne0-via-then-p-statements-ne0, then-p-statements-ne0-via-else-p-statements-ne0+then-p-statements-ne0-2}

pub returns-then-p-exceptions-ne0 : goal.returns-then-p-exceptions-ne0
returns-then-p-exceptions-ne0 c = past-x _ _ _ (search rules)

pub returns-then-p-statements-ne0 : goal.returns-then-p-statements-ne0
returns-then-p-statements-ne0 c =
    elim c.then-p-statements-ne0.branch [
      | then-p-statements-ne0-via-then-p-statements-ne0 w ↦ past-held _ _ _ (search rules) (search rules)
      | then-p-statements-ne0-via-else-p-statements-ne0+then-p-statements-ne0-2 w ↦ past-denied _ _ _ (search rules) (search rules)
    ]

pub returns-then-p-ne0 : goal.returns-then-p-ne0
returns-then-p-ne0 c = both-signs _ _ _ (search rules) (search rules) (search rules) (search rules)

pub returns : goal.returns
returns c = none-applies _ _ _ (search rules) (search rules) (search rules) (search rules)
