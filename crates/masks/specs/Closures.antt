-- What the functions that compute a closure within bounds promise.
use Rattle.std.specs.Prelude.{ℕ, ◌^◌, ◌<◌, ◌≡◌, List, ◌⊎◌, Result, Ok, Err, is_ok}
use Rattle.logic.specs.Tests.{Decides}
use Rattle.sets.specs.declared.Pair.{Pair}
use Rattle.sets.specs.Sets.{Within}
use Rattle.sets.specs.Pairs.{Sub, Off, meet_of}
use Rattle.masks.specs.declared.Masks.{Masks}
use Rattle.masks.specs.declared.Bounds.{Bounds}
use Rattle.masks.specs.Views.{masks_at, Fires, MaskClosed, MeetsAll}

-- If the rule can fire from t within the bounds, what it adds within them is in t already.
abbrev pub StableAt : Masks → Bounds → Pair → Type 0
StableAt r b t = Fires r b.lo t → Sub (meet_of r.head b.hi) t

-- The same of the first n rules.
abbrev pub Stable : List ℕ → ℕ → Bounds → Pair → Type 0
Stable ws n b t = (k : ℕ) → k < n → StableAt (masks_at ws k) b t

-- One rule takes d to e: e has d and what the rule adds to d, and no more than every stable pair above d.
pub record Fired (r : Masks) (b : Bounds) (d e : Pair) : Type 0 where
  pub grow : Sub d e
  pub below : (t : Pair) → Sub d t → StableAt r b t → Sub e t
  pub adds : Fires r b.lo d → Sub (meet_of r.head b.hi) e

-- A pass over the first n rules takes c to d.
pub record Passed (ws : List ℕ) (n : ℕ) (b : Bounds) (c d : Pair) : Type 0 where
  pub grow : Sub c d
  pub below : (t : Pair) → Sub c t → Stable ws n b t → Sub d t
  pub adds : (k : ℕ) → k < n → Fires (masks_at ws k) b.lo c → Sub (meet_of (masks_at ws k).head b.hi) d

-- The pair c is the least stable one that has the exceptions of the upper bound.
pub record Closure (ws : List ℕ) (n : ℕ) (b : Bounds) (c : Pair) : Type 0 where
  pub start : Within b.hi.taken c.taken
  pub stable : Stable ws n b c
  pub least : (t : Pair) → Within b.hi.taken t.taken → Stable ws n b t → Sub c t

-- The bounds from v to v, and the pair with v's exceptions alone.
abbrev pub only : Pair → Bounds
only v = record { lo = v; hi = v }

abbrev pub bare : Pair → Pair
bare v = record { taken = v.taken; held = 0; denied = 0 }

-- The word has one member at most.
abbrev pub Lone : ℕ → Type 0
Lone x = (x ≡ 0) ⊎ ((k : ℕ) × (x ≡ 2 ^ k))

-- One rule takes d to e: what has d, is within v and is closed under the rule has e.
pub record Grown (r : Masks) (v d e : Pair) : Type 0 where
  pub below : (c : Pair) → Sub d c → Sub c v → (Fires r v c → Off r.head c → ⊥) → Sub e c

-- Every closed pair within v that has v's exceptions has d; the same of closed under the first n rules.
abbrev pub Beneath : List ℕ → ℕ → Pair → Pair → Type 0
Beneath ws n v d = (c : Pair) → c.taken ≡ v.taken → Sub c v → MaskClosed ws n v c → Sub d c

-- What a sweep over the first n rules tells of v: whether it meets them all, and in either case a part of every closed pair within it.
pub record Swept (ws : List ℕ) (n : ℕ) (v : Pair) (s : Result Pair Pair) : Type 0 where
  pub exact : Decides (is_ok s) (MeetsAll ws n v)
  pub below : (d : Pair) → s ≡ Ok d → Beneath ws n v d
  pub short : (d : Pair) → s ≡ Err d → Beneath ws n v d
