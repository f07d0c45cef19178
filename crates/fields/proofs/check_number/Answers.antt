use Rattle.book.specs.declared.Content.TheVariants.{Edition, Statements, Literal, Exception, Total}
use Rattle.fields.proofs.Numbers.{number_of, ranged-number, edition-range, statements-range, literal-range, exception-range, total-range, flip-fits}
use borrow.Author.Rules.{rules}
use Rattle.fields.proofs.check_number.Goals as goal

pub overflow_sub-n : goal.overflow_sub-n
overflow_sub-n c = flip-fits c.args.n (search rules)

pub returns-in-Edition : goal.returns-in-Edition
returns-in-Edition c = number_of _ Edition _ _ _ (search rules) (search rules) _ (edition-range _) (ranged-number _ _ _ _ _ c.in_range.ensures)

pub returns-in-Statements : goal.returns-in-Statements
returns-in-Statements c = number_of _ Statements _ _ _ (search rules) (search rules) _ (statements-range _) (ranged-number _ _ _ _ _ c.in_range-in-Statements.ensures)

pub returns-in-Literal : goal.returns-in-Literal
returns-in-Literal c = number_of _ Literal _ _ _ (search rules) (search rules) _ (literal-range _ (search rules)) (ranged-number _ _ _ _ _ c.in_range-in-Literal.ensures)

pub returns-in-Exception : goal.returns-in-Exception
returns-in-Exception c = number_of _ Exception _ _ _ (search rules) (search rules) _ (exception-range _) (ranged-number _ _ _ _ _ c.in_range-in-Exception.ensures)

pub returns-in-Total : goal.returns-in-Total
returns-in-Total c = number_of _ Total _ _ _ (search rules) (search rules) _ (total-range _) (ranged-number _ _ _ _ _ c.in_range-in-Total.ensures)
