use Rattle.bounds.proofs.Steps.{forced-none, forced-body, forced-head}
use borrow.Author.Rules.{rules}
use borrow.Author.Tests.{not-false}
use Rattle.bounds.proofs.forced.Goals as goal

pub returns-then-not-lone : goal.returns-then-not-lone
returns-then-not-lone c = forced-body _ _ _ _ c.out.ensures c.into.ensures

pub returns-then-x-eq0 : goal.returns-then-x-eq0
returns-then-x-eq0 c = forced-none _ _ _ _ c.meet-x.ensures (search rules)

pub returns : goal.returns
returns c = forced-head _ _ _ _ _ _ _ c.meet-x.ensures c.lone.ensures (not-false _ (search rules)) c.out-2.ensures c.into-2.ensures c.into-3.ensures
