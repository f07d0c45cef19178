use mathlib.Core.Path.{refl}
use Rattle.least.specs.Rows.{row_of}
use Rattle.least.proofs.rows.row_of.Goals as goal

pub returns : goal.returns
unfolding row_of
returns c = rw (c.of_statements.ensures, c.of_statements-2.ensures) refl
