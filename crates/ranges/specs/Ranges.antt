-- Ranges of sets of exceptions that have no view.
use Rattle.std.specs.Prelude.{ℕ, List}
use Rattle.sets.specs.declared.Pair.{Pair}
use Rattle.masks.specs.declared.Bounds.{Bounds}
use Rattle.masks.specs.Views.{MaskView}
use Rattle.bounds.specs.Sound.{In, with_sets}
use Rattle.ranges.specs.declared.Range.{Range}

-- No view has a set of exceptions from lo to hi.
pub record NoView (ws : List ℕ) (n : ℕ) (ranks : List ℕ) (root : Bounds) (lo hi : ℕ) : Type 0 where
  pub none : (v : Pair) → MaskView ws n ranks v → In (with_sets root lo hi) v → ⊥

-- If the range s has no view, the range r has none.
pub record Wider (ws : List ℕ) (n : ℕ) (ranks : List ℕ) (root : Bounds) (s r : Range) : Type 0 where
  pub still : NoView ws n ranks root s.lo s.hi → NoView ws n ranks root r.lo r.hi
