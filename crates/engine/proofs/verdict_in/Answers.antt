use Rattle.book.proofs.Counts.{plain_in, alternatives-in, exceptions-in}
use Rattle.engine.proofs.Prepared.{own-short, own-verdict, verdict-is}
use borrow.Author.Rules.{rules}
use Rattle.engine.proofs.verdict_in.Goals as goal

pub invariant_of-rules : goal.invariant_of-rules
invariant_of-rules c = let p = plain_in _ c.requires in let a = alternatives-in _ c.requires in let x = exceptions-in _ c.requires in let e = c.rules-count.ensures in record { room = search rules }

pub fill-requires : goal.fill-requires
fill-requires c = let p = plain_in _ c.requires in let a = alternatives-in _ c.requires in let x = exceptions-in _ c.requires in let e = c.rules-count.ensures in search rules

pub own-ranks-requires : goal.own-ranks-requires
own-ranks-requires c = let x = exceptions-in _ c.requires in search rules

pub returns : goal.returns
returns c = own-verdict _ _ _ c.own-ranks.ensures c.requires (search rules) _ _ _ (verdict-is _ _ _ _ _ _ c.root_of-root.ensures (rw c.number.ensures (rw c.rules-count.ensures at c.verdict.ensures)))
