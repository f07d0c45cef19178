use Rattle.book.specs.Kinds.{kinds, most, bytes, longest}
use native.Mathlib.Omega.{arith}
use mathlib.Core.Path.{◌∙◌, sym}
use Rattle.read.proofs.Whole.{last-is, parsed-long, parsed-empty, parsed-open, parsed-lines}
use borrow.Author.Rules.{rules}
use Rattle.read.proofs.parse.Goals as goal

pub returns-then-text-gt-TEXT : goal.returns-then-text-gt-TEXT
unfolding longest most bytes kinds
returns-then-text-gt-TEXT c = parsed-long _ _ _ c.of.ensures (omega arith)

pub returns-then-text-eq0 : goal.returns-then-text-eq0
unfolding longest most bytes kinds
returns-then-text-eq0 c = parsed-empty _ _ _ c.of-then-text-eq0.ensures (omega arith) (search rules)

pub returns-then-text-ne10 : goal.returns-then-text-ne10
unfolding longest most bytes kinds
returns-then-text-ne10 c = parsed-open _ _ _ c.of-then-text-ne10.ensures (omega arith) (search rules) (search rules)

pub read_lines-requires : goal.read_lines-requires
unfolding longest most bytes kinds
read_lines-requires c = (omega arith, sym (last-is c.args.text.now (search rules)) ∙ search rules, omega arith)

pub returns : goal.returns
unfolding longest most bytes kinds
returns c = parsed-lines _ _ _ c.read_lines.ensures (omega arith) (search rules) (search rules)
