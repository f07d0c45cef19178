use Rattle.walk.proofs.Walks.{out-marked, out-beyond, out-short}
use borrow.Author.Rules.{rules}
use Rattle.walk.proofs.ruled_out.Goals as goal

pub returns-then-is_marked : goal.returns-then-is_marked
returns-then-is_marked c = out-marked _ _ _ (c.is_marked.ensures.yes (search rules))

pub returns-then-not-subset : goal.returns-then-not-subset
returns-then-not-subset c = out-beyond _ _ _ (c.subset.ensures.no (search rules))

pub returns : goal.returns
returns c = out-short _ _ _ (c.is_marked.ensures.no (search rules)) (c.subset.ensures.yes (search rules)) _ c.subset-2.ensures
