use mathlib.Core.Path.{refl}
use Rattle.queue.proofs.Chains.{seen-several}
use Rattle.queue.proofs.Rows.{seen-none-more, row-names}
use borrow.Author.Rules.{rules}
use Rattle.queue.proofs.heads.all_givers.Goals as goal

pub returns-then-n-c : goal.returns-then-n-c
returns-then-n-c c = seen-none-more _ _ _ _ _ _ c.requires.0.upto (search rules) c.count_givers-g.ensures

pub returns-then-c-n : goal.returns-then-c-n
returns-then-c-n c = seen-several _ _ _ _ _ _ refl

pub more_givers-requires : goal.more_givers-requires
more_givers-requires c = rw c.number.ensures (c.requires.0.upto, row-names _ _ _ _ _ _ _ c.requires.1 c.requires.2 c.one-m.ensures (c.requires.0.rows (search rules)), rw c.one-m.ensures c.count_givers-g.ensures)

pub returns : goal.returns
returns c = rw c.one-m.ensures at c.more_givers.ensures
