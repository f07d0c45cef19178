use mathlib.Core.Path.{refl}
use borrow.Author.Rules.{rules}
use Rattle.write.proofs.TableLaws.{count-is}
use Rattle.write.proofs.count_over.Goals as goal

pub returns : goal.returns
returns c = count-is c.args.t.now c.args.x _ c.at_most.result (search rules) refl c.at_most.ensures
