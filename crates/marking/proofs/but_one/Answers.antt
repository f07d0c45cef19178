use Rattle.marking.proofs.Marks.{other_word, own-word}
use Rattle.std.proofs.Common.{rules}
use Rattle.marking.proofs.but_one.Goals as goal

pub returns-then-but-w : goal.returns-then-but-w
returns-then-but-w c = other_word _ _ _ (search rules)

pub returns : goal.returns
returns c = own-word _ _ _ (search rules)
