use mathlib.Core.Path.{sym}
use native.Mathlib.Omega.{arith}
use Rattle.line.proofs.PutLaws.{fields-short, fields-long}
use borrow.Author.Rules.{rules}
use Rattle.line.proofs.line_fields.Goals as goal

pub returns-then-exceptions-le-SHORT_LINE : goal.returns-then-exceptions-le-SHORT_LINE
returns-then-exceptions-le-SHORT_LINE c = (sym (fields-short _ (search rules)), omega arith)

pub returns : goal.returns
returns c = (sym (fields-long _ (search rules)), omega arith)
