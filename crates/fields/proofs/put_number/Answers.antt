use mathlib.Core.Path.{ap, ◌∙◌}
use native.Mathlib.Omega.{arith}
use lib.Seq.{sets}
use Rattle.fields.proofs.Puts.{number_is}
use Rattle.fields.proofs.put_number.Goals as goal

pub put_columns-requires : goal.put_columns-requires
put_columns-requires c = ((number_is c.args.v c.requires.0 c.unsigned_abs.result c.unsigned_abs.ensures.value).0, omega arith)

pub returns : goal.returns
returns c = c.put_columns.ensures ∙ ap (sets c.args.buf.now c.args.at) (number_is c.args.v c.requires.0 c.unsigned_abs.result c.unsigned_abs.ensures.value).1
