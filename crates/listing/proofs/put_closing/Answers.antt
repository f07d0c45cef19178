use borrow.Author.Rules.{rules}
use Rattle.listing.proofs.Stores.{closed}
use Rattle.listing.proofs.put_closing.Goals as goal

pub returns : goal.returns
returns c = closed _ _ _ _ _ (search rules) (search rules) (c.fill.ensures.after (λ y e. e)) c.put_columns.ensures
