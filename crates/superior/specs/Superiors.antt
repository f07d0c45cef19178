-- A view from whose exceptions preference lines lead to a member of a set.
use Rattle.std.specs.Prelude.{ℕ, ◌+◌, ◌<◌, ◌≡◌, Bool, true, List, ◌⊎◌}
use Rattle.sets.specs.declared.Pair.{Pair}
use Rattle.sets.specs.Sets.{bit_of}
use Rattle.masks.specs.declared.Bounds.{Bounds}
use Rattle.masks.specs.Views.{masks_at, Fires, Leads, MaskView}
use Rattle.sets.specs.Pairs.{Sub}
use Rattle.bounds.specs.Sound.{In, Propagated, into_of, out_of}
use Rattle.masks.specs.Steps.{Of}
use Rattle.std.specs.Prelude.{Option, Some, None}

-- Steps by lines with the property L lead from a to a member of t.
pub record ToMember (ws : List ℕ) (n : ℕ) (ranks : List ℕ) (L : ℕ → Type 0) (t a : ℕ) : Type 0 where
  pub lower : ℕ
  pub member : bit_of t lower ≡ 1
  pub leads : Leads ws n ranks L a lower

-- Line j counts in w and is one of `usable`.
abbrev pub Used : List ℕ → ℕ → Pair → ℕ → ℕ → Type 0
Used ws n w usable j = Fires (masks_at ws (n + j)) w w × (bit_of usable j ≡ 1)

-- It is besides one of `free`, or surely counts within b.
abbrev pub Usable : List ℕ → ℕ → Bounds → Pair → ℕ → ℕ → ℕ → Type 0
Usable ws n b w usable free j = Used ws n w usable j × ((bit_of free j ≡ 1) ⊎ Fires (masks_at ws (n + j)) b.hi b.lo)

-- What is found is a view within b from whose exceptions used lines lead to t; if nothing is found, none leads there by lines that may be used.
pub record Superior (ws : List ℕ) (n : ℕ) (ranks : List ℕ) (b : Bounds) (t usable free : ℕ) (r : Option Pair) : Type 0 where
  pub found : (w : Pair) → r ≡ Some w → MaskView ws n ranks w × In b w × ((a : ℕ) × (bit_of w.taken a ≡ 1) × ToMember ws n ranks (Used ws n w usable) t a)
  pub none : r ≡ None → (w : Pair) → MaskView ws n ranks w → In b w → (a : ℕ) → a < 64 → bit_of w.taken a ≡ 1 → ToMember ws n ranks (Usable ws n b w usable free) t a → ⊥

-- Exception a is one of `among`, and steps by lines of m lead from it to a member of t.
abbrev pub Source : List ℕ → ℕ → List ℕ → ℕ → ℕ → ℕ → ℕ → Type 0
Source ws n ranks m among t a = (bit_of among a ≡ 1) × ToMember ws n ranks (Of m) t a

-- A view within b that takes one of the members of s; none takes one of the first k.
pub record Taking (ws : List ℕ) (n : ℕ) (ranks : List ℕ) (b : Bounds) (s k : ℕ) (r : Option Pair) : Type 0 where
  pub found : (w : Pair) → r ≡ Some w → MaskView ws n ranks w × In b w × ((a : ℕ) × (bit_of w.taken a ≡ 1) × (bit_of s a ≡ 1))
  pub none : r ≡ None → (w : Pair) → MaskView ws n ranks w → In b w → (a : ℕ) → a < k → bit_of w.taken a ≡ 1 → bit_of s a ≡ 1 → ⊥

-- The same of the member a alone.
pub record TakingAt (ws : List ℕ) (n : ℕ) (ranks : List ℕ) (b : Bounds) (s a : ℕ) (r : Option Pair) : Type 0 where
  pub found : (w : Pair) → r ≡ Some w → MaskView ws n ranks w × In b w × (bit_of w.taken a ≡ 1) × (bit_of s a ≡ 1)
  pub none : r ≡ None → (w : Pair) → MaskView ws n ranks w → In b w → bit_of w.taken a ≡ 1 → bit_of s a ≡ 1 → ⊥

-- Every view within b that takes none of s is within c, which is no wider.
pub record Left (ws : List ℕ) (n : ℕ) (ranks : List ℕ) (b : Bounds) (s : ℕ) (c : Bounds) : Type 0 where
  pub lo : Sub b.lo c.lo
  pub hi : Sub c.hi b.hi
  pub keeps : (w : Pair) → MaskView ws n ranks w → In b w → ((a : ℕ) → bit_of w.taken a ≡ 1 → bit_of s a ≡ 1 → ⊥) → In c w

-- The bounds o are those of b where the body of line j holds.
pub record Assumed (ws : List ℕ) (n : ℕ) (ranks : List ℕ) (b : Bounds) (j : ℕ) (o : Bounds) : Type 0 where
  pub with_body : Bounds
  pub made : with_body ≡ into_of (out_of b (masks_at ws (n + j)).bar) (masks_at ws (n + j)).need
  pub propagated : Propagated ws n ranks with_body o

-- The set r is the set free without j, and smaller if that has j.
pub record Without (free j r : ℕ) : Type 0 where
  pub others : (i : ℕ) → bit_of free i ≡ 1 → (i ≡ j → ⊥) → bit_of r i ≡ 1
  pub less : bit_of free j ≡ 1 → r < free

-- If so, no view within b takes an exception from which lines of m lead to a member of t.
pub record Hopeless (ws : List ℕ) (n : ℕ) (ranks : List ℕ) (b : Bounds) (m t : ℕ) (r : Bool) : Type 0 where
  pub none : r ≡ true → (w : Pair) → MaskView ws n ranks w → In b w → (a : ℕ) → a < 64 → bit_of w.taken a ≡ 1 → ToMember ws n ranks (Of m) t a → ⊥

-- Line j is one of m, if m has any.
pub record Picks (m j : ℕ) : Type 0 where
  pub member : (m ≡ 0 → ⊥) → bit_of m j ≡ 1
