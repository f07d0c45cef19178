-- Bounds with only the sets of exceptions from lo to hi: what is within them is what is within the bounds before and has such a set.
use mathlib.Core.Path.{◌≡◌}
use Prim.Native.Nat.{ℕ}
use native.Mathlib.Nat.{le_trans}
use Rattle.sets.specs.declared.Pair.{Pair}
use Rattle.sets.specs.Sets.{Within}
use Rattle.sets.proofs.Words.{both_ways, sub-or, sub-and, or_l, or_r, and_l, and_r}
use Rattle.masks.specs.declared.Bounds.{Bounds}
use Rattle.bounds.specs.Sound.{In, with_sets}

module _ (root : Bounds) (lo hi : ℕ) (v : Pair) where
  pub in-sets : In root v → Within lo v.taken → Within v.taken hi → In (with_sets root lo hi) v
  unfolding with_sets
  in-sets i g h = record {
    lo = record { taken = sub-or _ _ _ i.lo.taken g; held = i.lo.held; denied = i.lo.denied };
    hi = record { taken = sub-and _ _ _ i.hi.taken h; held = i.hi.held; denied = i.hi.denied };
  }

  pub in-root : In (with_sets root lo hi) v → In root v
  unfolding with_sets
  in-root i = record {
    lo = record { taken = λ k. le_trans (or_l root.lo.taken lo k) (i.lo.taken k); held = i.lo.held; denied = i.lo.denied };
    hi = record { taken = λ k. le_trans (i.hi.taken k) (and_l root.hi.taken hi k); held = i.hi.held; denied = i.hi.denied };
  }

  pub set-above : In (with_sets root lo hi) v → Within lo v.taken
  unfolding with_sets
  set-above i k = le_trans (or_r root.lo.taken lo k) (i.lo.taken k)

  pub set_below : In (with_sets root lo hi) v → Within v.taken hi
  unfolding with_sets
  set_below i k = le_trans (i.hi.taken k) (and_r root.hi.taken hi k)

-- A pair within the bounds of one set has that set.
pub one_set : (root : Bounds) (t : ℕ) (v : Pair) → In (with_sets root t t) v → v.taken ≡ t
one_set root t v i = both_ways v.taken t (set_below root t t v i) (set-above root t t v i)
