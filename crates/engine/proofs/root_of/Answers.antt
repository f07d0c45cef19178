use Rattle.book.proofs.Counts.{plain_in, alternatives-in, exceptions-in}
use Rattle.engine.proofs.Prepared.{root_is}
use borrow.Author.Rules.{rules}
use Rattle.engine.proofs.root_of.Goals as goal

pub root-requires : goal.root-requires
root-requires c = let p = plain_in _ c.requires.0 in let a = alternatives-in _ c.requires.0 in let x = exceptions-in _ c.requires.0 in let s = c.requires.0.statements in search rules

pub returns : goal.returns
returns c = root_is _ _ _ _ _ c.root.ensures (rw c.requires.1 at c.propagate.ensures)
