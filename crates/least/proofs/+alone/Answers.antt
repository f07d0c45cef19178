use borrow.Author.Rules.{rules}
use native.Mathlib.Omega.{arith}
use Rattle.least.proofs.Looks.{out-less, into_less, alone-whole, alone-less, alone-out, alone-into}
use Rattle.least.proofs.+alone.Goals as goal

pub alone-requires : goal.alone-requires
alone-requires t c = let h = out-less c.seek.ensures _ _ c.in-Open.is _ c.out-o.ensures in (omega (arith, c.decreases), c.requires)

pub returns-then-not-alone : goal.returns-then-not-alone
returns-then-not-alone t c = alone-out c.seek.ensures _ _ c.in-Open.is _ _ c.out-o.ensures c.alone.ensures (search rules)

pub alone-requires-in-Open : goal.alone-requires-in-Open
alone-requires-in-Open t c = let h = into_less c.seek.ensures _ _ c.in-Open.is _ c.into-p.ensures in (omega (arith, c.decreases), c.requires)

pub returns-in-Whole : goal.returns-in-Whole
returns-in-Whole t c = alone-whole c.seek.ensures (search rules)

pub returns-in-Less : goal.returns-in-Less
returns-in-Less t c = alone-less c.seek.ensures (search rules)

pub returns-else-not-alone : goal.returns-else-not-alone
returns-else-not-alone t c = alone-into c.seek.ensures _ _ c.in-Open.is _ _ _ _ c.out-o.ensures c.alone.ensures (search rules) c.into-p.ensures c.alone-in-Open.ensures
