use mathlib.Core.Path.{refl}
use borrow.Author.Rules.{rules}
use Rattle.read.proofs.Whole.{table-put}
use Rattle.read.proofs.put_table.Goals as goal

pub returns : goal.returns
returns c = table-put _ c.put_front.new.table _ c.copy_from_slice.new.self _ c.args.s (search rules) c.put_front.ensures c.copy_from_slice.ensures.after refl
