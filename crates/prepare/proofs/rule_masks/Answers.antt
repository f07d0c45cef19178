use Rattle.book.specs.Kinds.{entries_each}
use Prim.Native.Nat.{◌+◌}
use native.Mathlib.Omega.{arith}
use Rattle.prepare.proofs.Masks.{readable-part, rule-is}
use Rattle.prepare.proofs.rule_masks.Goals as goal

pub entries_mask-needed-requires : goal.entries_mask-needed-requires
entries_mask-needed-requires c = readable-part _ _ _ _ _ c.requires (omega arith)

pub entries_mask-barred-requires : goal.entries_mask-barred-requires
entries_mask-barred-requires c = readable-part _ _ (entries_each + entries_each) entries_each entries_each (readable-part _ _ _ _ (entries_each + entries_each) c.requires (omega arith)) (omega arith)

pub returns : goal.returns
returns c = rule-is _ _ _ _ _ _ _ c.entries_mask-head.ensures c.entries_mask-needed.ensures c.entries_mask-barred.ensures
