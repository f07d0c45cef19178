use Rattle.book.proofs.Counts.{plain_in, alternatives-in, exceptions-in}
use mathlib.Core.Path.{refl}
use Rattle.engine.proofs.Prepared.{own-short, own-page, page_is}
use borrow.Author.Rules.{rules}
use Rattle.engine.proofs.page_in.Goals as goal

pub invariant_of-rules : goal.invariant_of-rules
invariant_of-rules c = let p = plain_in _ c.requires.0 in let a = alternatives-in _ c.requires.0 in let x = exceptions-in _ c.requires.0 in let e = c.rules-count.ensures in record { room = search rules }

pub fill-requires : goal.fill-requires
fill-requires c = let p = plain_in _ c.requires.0 in let a = alternatives-in _ c.requires.0 in let x = exceptions-in _ c.requires.0 in let e = c.rules-count.ensures in search rules

pub own-ranks-requires : goal.own-ranks-requires
own-ranks-requires c = let x = exceptions-in _ c.requires.0 in search rules

pub page-requires : goal.page-requires
page-requires c = let q = own-short _ _ _ c.own-ranks.ensures c.requires.0 (search rules) in let p = plain_in _ c.requires.0 in let a = alternatives-in _ c.requires.0 in let x = exceptions-in _ c.requires.0 in let s = c.requires.0.statements in let e = c.rules-count.ensures in (search rules, search rules, search rules)

pub returns : goal.returns
returns c = own-page _ _ _ c.own-ranks.ensures c.requires.0 (search rules) _ _ _ _ _ (page_is _ _ _ _ _ c.root_of-root.ensures c.rules-count.ensures refl _ _ _ refl _ c.page.ensures)
