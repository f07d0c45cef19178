use borrow.Author.Rules.{rules}
use Rattle.entry.proofs.Leaves.{letter-digit, letter-capital}
use Rattle.entry.proofs.is_letter.Goals as goal

pub returns-then-is_ascii_digit : goal.returns-then-is_ascii_digit
returns-then-is_ascii_digit c = letter-digit _ _ c.is_ascii_digit.ensures.value (search rules)

pub returns-else-is_ascii_digit : goal.returns-else-is_ascii_digit
returns-else-is_ascii_digit c = letter-capital _ _ _ c.is_ascii_digit.ensures.value (search rules) c.is_ascii_uppercase.ensures.value
