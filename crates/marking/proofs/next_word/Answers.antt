use Rattle.std.proofs.Common.{arith, rules}
use Rattle.marking.proofs.Marks.{next-none, next_fits, next-later, next-there}
use Rattle.marking.proofs.next_word.Goals as goal

pub returns-then-w-hi : goal.returns-then-w-hi
returns-then-w-hi c = (search rules, next-none _ _ _ _ (search rules))

pub overflow_add-u : goal.overflow_add-u
overflow_add-u c = record { fits = next_fits _ _ _ c.requires.1 (omega arith) (search rules) }

pub returns : goal.returns
returns c = (next-later _ _ _ c.requires.1 (omega arith) (search rules), next-there _ _ _ c.requires.1 (omega arith) _)
