-- What the search for a view within bounds promises.
use Rattle.std.specs.Prelude.{◌≡◌, ℕ, List, Option, Some, None}
use Rattle.sets.specs.declared.Pair.{Pair}
use Rattle.sets.specs.Pairs.{Sub, Off, Atom, minus_of}
use Rattle.masks.specs.declared.Bounds.{Bounds}
use Rattle.masks.specs.Views.{MaskView}
use Rattle.bounds.specs.Sound.{In, Propagated}
use Rattle.queue.specs.declared.waiting.Waiting.{Waiting}
use Rattle.probe.specs.declared.Outcome.{Outcome}
use Rattle.probe.specs.declared.Outcome.TheVariants.{Has, Lacks}
use Rattle.probe.specs.declared.Node.{Node}
use Rattle.probe.specs.declared.Node.TheVariants.{View, Empty, Open}

-- What is found is a view within the bounds; if nothing is found there is none.
pub record Probed (ws : List ℕ) (n : ℕ) (ranks : List ℕ) (b : Bounds) (a : Option Pair) : Type 0 where
  pub found : (v : Pair) → a ≡ Some v → (MaskView ws n ranks v) × (In b v)
  pub none : a ≡ None → (v : Pair) → MaskView ws n ranks v → In b v → ⊥

-- The same of a search that may stop: where it stopped, it says nothing.
pub record Attempted (ws : List ℕ) (n : ℕ) (ranks : List ℕ) (b : Bounds) (a : Outcome) : Type 0 where
  pub found : (v : Pair) → a ≡ Has v → (MaskView ws n ranks v) × (In b v)
  pub none : (left : ℕ) → a ≡ Lacks left → (v : Pair) → MaskView ws n ranks v → In b v → ⊥

-- The bounds c hold every view within b, and m is one member that the upper end of c has and the lower has not.
pub record Halved (ws : List ℕ) (n : ℕ) (ranks : List ℕ) (b c : Bounds) (m : Pair) : Type 0 where
  pub narrow : Propagated ws n ranks b c
  pub ordered : Sub c.lo c.hi
  pub atom : Atom m
  pub some : Off m m → ⊥
  pub inside : Sub m (minus_of c.hi c.lo)

-- A node says of the bounds b: this is the one view within them; there is none; or there are narrower bounds and a member to split them by.
pub record Opened (ws : List ℕ) (n : ℕ) (ranks : List ℕ) (b : Bounds) (x : Node) : Type 0 where
  pub view : (v : Pair) → x ≡ View v → (MaskView ws n ranks v) × (In b v)
  pub alone : (v : Pair) → x ≡ View v → (u : Pair) → MaskView ws n ranks u → In b u → v ≡ u
  pub empty : x ≡ Empty → (v : Pair) → MaskView ws n ranks v → In b v → ⊥
  pub halves : (c : Bounds) (m : Pair) (live : Waiting) → x ≡ Open c m live → Halved ws n ranks b c m
