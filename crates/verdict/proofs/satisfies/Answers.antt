use Rattle.verdict.proofs.Tests.{satisfies-fires, satisfies-untaken}
use borrow.Author.Rules.{rules}
use Rattle.verdict.proofs.satisfies.Goals as goal

pub returns-then-fires : goal.returns-then-fires
returns-then-fires c = satisfies-fires _ _ _ c.fires.ensures (search rules)

pub returns : goal.returns
returns c = satisfies-untaken _ _ _ c.fires.ensures (search rules)
