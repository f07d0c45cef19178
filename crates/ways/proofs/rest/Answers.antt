use native.Mathlib.Omega.{arith}
use Rattle.ways.proofs.rest.Goals as goal

pub loop-stand-init : goal.loop-stand-init
loop-stand-init c = c.requires

pub overflow_sub-left : goal.overflow_sub-left
overflow_sub-left c = let h = c.loop-stand.invariant.fewer _ c.in-Some.is in omega arith

pub go_on-requires : goal.go_on-requires
go_on-requires c = c.loop-stand.invariant.goes_on _ c.in-Some.is

pub loop-stand-smaller : goal.loop-stand-smaller
loop-stand-smaller c = let h = c.loop-stand.invariant.fewer _ c.in-Some.is in omega arith

pub loop-stand-preserved : goal.loop-stand-preserved
loop-stand-preserved c = c.in_ok-stand.ensures

pub returns : goal.returns
returns c = c.loop-stand.invariant.ends c.in_default.is
