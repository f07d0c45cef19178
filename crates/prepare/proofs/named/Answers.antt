use mathlib.Core.Path.{ap}
use native.Mathlib.Omega.{arith}
use lib.IntN.{nat_abs}
use Rattle.prepare.proofs.Preferences.{names-is}
use Rattle.prepare.proofs.named.Goals as goal

pub overflow_cast-result : goal.overflow_cast-result
overflow_cast-result c = rw (names-is c.args.x c.requires) (tt, let h = c.requires.most in omega arith)

pub returns : goal.returns
returns c = ap nat_abs (names-is c.args.x c.requires)
