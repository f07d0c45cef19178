use Rattle.prepare.proofs.Masks.{entries-start, entries-turn}
use native.Mathlib.Omega.{arith}
use Rattle.prepare.proofs.entries_mask.Goals as goal

pub loop-i-init : goal.loop-i-init
loop-i-init c = (omega arith, entries-start _ _ _)

pub loop-i-preserved : goal.loop-i-preserved
loop-i-preserved c = (omega arith, entries-turn _ _ _ _ _ _ _ c.requires (omega arith) (omega arith) c.loop-i.invariant.1 c.entry_mask.ensures c.join-m.ensures)
