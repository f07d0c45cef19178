use Rattle.book.proofs.Counts.{plain_in, alternatives-in, exceptions-in}
use borrow.Author.Rules.{rules}
use Rattle.engine.proofs.rules.Goals as goal

pub overflow_add-result : goal.overflow_add-result
overflow_add-result c = let p = plain_in _ c.requires in let a = alternatives-in _ c.requires in let x = exceptions-in _ c.requires in let s = c.requires.statements in search rules

pub overflow_add-result-2 : goal.overflow_add-result-2
overflow_add-result-2 c = let p = plain_in _ c.requires in let a = alternatives-in _ c.requires in let x = exceptions-in _ c.requires in let s = c.requires.statements in search rules
