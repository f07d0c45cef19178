use Rattle.std.proofs.Common.{◌≡◌, arith}
use Rattle.marking.proofs.Marks.{digit-at, pattern-none, pattern-more}
use Rattle.marking.proofs.pattern.Goals as goal

pub loop-i-init : goal.loop-i-init
loop-i-init c = pattern-none _ _

pub with_digit-p-requires : goal.with_digit-p-requires
with_digit-p-requires c = (omega arith, digit-at _ (omega arith), c.requires)

pub loop-i-preserved : goal.loop-i-preserved
loop-i-preserved c = pattern-more _ _ _ _ _ c.loop-i.invariant c.with_digit-p.ensures

pub returns : goal.returns
returns c = let e : c.loop-i.i ≡ 6 = omega arith in rw e at c.loop-i.invariant
