use Rattle.marking.proofs.Marks.{selected-with, selected-without, selected-all}
use Rattle.std.proofs.Common.{rules}
use Rattle.marking.proofs.with_digit.Goals as goal

pub returns-then-lo-i-eq1 : goal.returns-then-lo-i-eq1
returns-then-lo-i-eq1 c = selected-with _ _ _ _ _ c.requires.1 c.requires.2 (search rules)

pub returns-then-hi-i-eq0 : goal.returns-then-hi-i-eq0
returns-then-hi-i-eq0 c = selected-without _ _ _ _ _ c.requires.1 c.requires.2 (search rules)

pub returns : goal.returns
returns c = selected-all _ _ c.args.digit _ _ c.requires.1 c.requires.2 (search rules) (search rules)
