use native.Mathlib.Nat.{div-mul-le_self}
use native.Mathlib.Omega.{arith}
use lib.ListN.{length}
use Rattle.visits.proofs.Made.{made_none, made_more, made-many}
use Rattle.visits.proofs.visit_all.Goals as goal

pub loop-k-init : goal.loop-k-init
loop-k-init c = made_none _ _ _

pub visit-requires : goal.visit-requires
visit-requires c = let n = div-mul-le_self (length c.args.calls.now) 33 in (omega (arith, n), omega (arith, n))

pub loop-k-preserved : goal.loop-k-preserved
loop-k-preserved c = made_more _ _ _ _ _ _ _ _ c.loop-k.invariant c.visit.ensures

pub returns : goal.returns
returns c = made-many _ _ _ _ _ _ _ (omega arith) c.loop-k.invariant
