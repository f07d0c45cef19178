-- Which sets of exceptions a resolution can have (document 01): no view has a proper subset, and no view has a member that outranks one.
use Rattle.std.specs.Prelude.{ℕ, ◌<◌, ◌≤◌, ◌≡◌, List, length, get_or}
use Rattle.sets.specs.declared.Pair.{Pair}
use Rattle.sets.specs.Sets.{bit_of, Within, Apart}
use Rattle.masks.specs.declared.Bounds.{Bounds}
use Rattle.masks.specs.Views.{MaskDominates, MaskView}
use Rattle.bounds.specs.Sound.{In}

-- No view within root has a proper subset of taken; the same of the subsets that lack the exception at place e.
pub record Minimal (ws : List ℕ) (n : ℕ) (ranks : List ℕ) (root : Bounds) (taken : ℕ) : Type 0 where
  pub has : (v : Pair) → MaskView ws n ranks v → In root v → Within v.taken taken → Within taken v.taken

pub record MinimalAt (ws : List ℕ) (n : ℕ) (ranks : List ℕ) (root : Bounds) (taken e : ℕ) : Type 0 where
  pub has : (v : Pair) → MaskView ws n ranks v → In root v → Within v.taken taken → bit_of taken e ≤ bit_of v.taken e

-- No view within root takes an exception that outranks a member of taken; the same of the exception at place a, which outranks those of rank.
pub record Undominated (ws : List ℕ) (n : ℕ) (ranks : List ℕ) (root : Bounds) (taken : ℕ) : Type 0 where
  pub free : (a : ℕ) → a < length ranks → (v : Pair) → MaskView ws n ranks v → In root v → bit_of v.taken a ≡ 1 → Apart (get_or ranks a 0) taken

pub record UndominatedAt (ws : List ℕ) (n : ℕ) (ranks : List ℕ) (root : Bounds) (taken rank a : ℕ) : Type 0 where
  pub free : (v : Pair) → MaskView ws n ranks v → In root v → bit_of v.taken a ≡ 1 → Apart rank taken

-- The set taken is one that a resolution can have, among the views within root.
pub record Admissible (ws : List ℕ) (n : ℕ) (ranks : List ℕ) (root : Bounds) (taken : ℕ) : Type 0 where
  pub minimal : Minimal ws n ranks root taken
  pub undominated : Undominated ws n ranks root taken

-- ---- with preferences under a condition (document 02 (e))
-- No view within root dominates the pair: it stands.
pub record Stands (ws : List ℕ) (n : ℕ) (ranks : List ℕ) (root : Bounds) (v : Pair) : Type 0 where
  pub free : (w : Pair) → MaskView ws n ranks w → In root w → MaskDominates ws n ranks w v → ⊥

-- No view within root that stands has a proper subset of taken.
pub record Unexceeded (ws : List ℕ) (n : ℕ) (ranks : List ℕ) (root : Bounds) (taken : ℕ) : Type 0 where
  pub has : (v : Pair) → MaskView ws n ranks v → In root v → Stands ws n ranks root v → Within v.taken taken → Within taken v.taken
