use native.Mathlib.Omega.{arith}
use lib.Count.{trailing_le}
use Rattle.sets.proofs.Lowest.{lowest-is}
use Rattle.sets.proofs.low.Goals as goal

pub overflow_cast-result : goal.overflow_cast-result
overflow_cast-result c = record { fits = omega (arith, trailing_le 64 c.args.x) }

pub returns : goal.returns
returns c = (trailing_le 64 _, lowest-is _)
