use Rattle.masks.proofs.Booleans.{not_refused}
use Rattle.masks.proofs.Closures.{grown-none, grown-head}
use borrow.Author.Rules.{rules}
use Rattle.masks.proofs.add_within.Goals as goal

pub returns-then-not-f : goal.returns-then-not-f
returns-then-not-f c = grown-none _ _ _

pub returns-then-not-lone : goal.returns-then-not-lone
returns-then-not-lone c = grown-none _ _ _

pub returns-then-within : goal.returns-then-within
returns-then-within c =
    grown-head _ _ _ _ c.within.ensures (search rules) _ c.requires (search rules) _ _ _ c.meet-x.ensures
    c.lone.ensures (not_refused _ (search rules)) c.join.ensures

pub returns : goal.returns
returns c = grown-none _ _ _
