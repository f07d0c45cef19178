use Rattle.few.proofs.Listing.{collected-is, collected-full, collected-nothing}
use borrow.Author.Rules.{rules}
use Rattle.few.proofs.collect.Goals as goal

pub returns-then-r-ne0 : goal.returns-then-r-ne0
returns-then-r-ne0 c = collected-is _ _ _ _ _ _ _ _ _ c.gather-r.ensures c.requires (search rules)

pub returns-then-r-ne0-2 : goal.returns-then-r-ne0-2
returns-then-r-ne0-2 c = collected-full _ _ _ _ _ _ _ _ _ c.gather-r.ensures (search rules)

pub returns-in-None : goal.returns-in-None
returns-in-None c = collected-nothing c.probe_shaved-a.ensures _ _ (search rules)
