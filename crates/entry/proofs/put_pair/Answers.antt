use Rattle.entry.proofs.Numbers.{pair_put}
use borrow.Author.Rules.{rules}
use Rattle.entry.proofs.put_pair.Goals as goal

pub returns : goal.returns
returns c = pair_put _ c.put_word.new.s c.put_word-2.new.s _ _ _ (search rules) (search rules) (search rules)
