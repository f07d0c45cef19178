-- Ranges without a view: what propagation shows.
use mathlib.Core.Path.{◌≡◌}
use mathlib.Core.Bool.{Bool, true, not}
use mathlib.Core.List.{List}
use Prim.Native.Nat.{ℕ}
use borrow.Author.Tests.{not-true}
use Rattle.logic.specs.Tests.{Decides}
use Rattle.sets.specs.Pairs.{Sub}
use Rattle.sets.proofs.Pairs.{sub_trans}
use Rattle.masks.specs.declared.Bounds.{Bounds}
use Rattle.bounds.specs.Sound.{Propagated, with_sets}
use Rattle.ranges.specs.Ranges.{NoView}

module _ (ws : List ℕ) (n : ℕ) (ranks : List ℕ) (root : Bounds) where
  -- Propagation leaves nothing.
  pub refuted-none : (lo hi : ℕ) (b o : Bounds) (z : Bool) → b ≡ with_sets root lo hi → Propagated ws n ranks b o → Decides z (Sub o.lo o.hi) → not z ≡ true → NoView ws n ranks root lo hi
  refuted-none lo hi b o z eb p d e =
      record { none = λ v m i. let k = p.keeps.kept v m (rw eb i) in d.no (not-true z e) (sub_trans k.lo k.hi) }
