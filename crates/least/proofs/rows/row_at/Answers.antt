use mathlib.Core.Path.{refl}
use Rattle.least.specs.Rows.{row_at}
use Rattle.least.proofs.rows.row_at.Goals as goal

pub returns : goal.returns
unfolding row_at
returns c = rw (c.of_statements.ensures, c.of_statements-2.ensures) refl
