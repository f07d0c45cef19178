-- What it is that a step on bounds is sound (docs/SEARCH.md): no view within them is lost.
-- Bounds whose lower end is not within the upper have nothing in them, so they say that there is no view.
use Rattle.std.specs.Prelude.{ℕ, ◌≡◌, List, []}
use Rattle.std.specs.Int.Bits.{bit_and, bit_or}
use Rattle.sets.specs.declared.Pair.{Pair}
use Rattle.sets.specs.Sets.{bit_of, Apart}
use Rattle.sets.specs.Pairs.{Sub, join_of, meet_of, minus_of}
use Rattle.masks.specs.declared.Masks.{Masks}
use Rattle.masks.specs.declared.Bounds.{Bounds}
use Rattle.masks.specs.Views.{Fires, Meets, Level, Lined, Uncrossed, MaskView}

-- The pair is within the bounds.
pub record In (b : Bounds) (v : Pair) : Type 0 where
  pub lo : Sub b.lo v
  pub hi : Sub v b.hi

-- Every pair with the property P that is within b is within o.
pub record Keeps (P : Pair → Type 0) (b o : Bounds) : Type 0 where
  pub kept : (v : Pair) → P v → In b v → In o v

-- The bounds b with m in every pair, with nothing of m in any, and without what o leaves out.
unfoldable pub into_of : Bounds → Pair → Bounds
into_of b m = record { lo = join_of b.lo m; hi = b.hi }

unfoldable pub out_of : Bounds → Pair → Bounds
out_of b m = record { lo = b.lo; hi = minus_of b.hi m }

unfoldable pub narrow_of : Bounds → Bounds → Bounds
narrow_of b o = record { lo = join_of b.lo o.lo; hi = meet_of b.hi o.hi }

-- The bounds root with only the sets of exceptions from lo to hi.
unfoldable pub with_sets : Bounds → ℕ → ℕ → Bounds
with_sets root lo hi = record {
  lo = record { taken = bit_or root.lo.taken lo; held = root.lo.held; denied = root.lo.denied };
  hi = record { taken = bit_and root.hi.taken hi; held = root.hi.held; denied = root.hi.denied };
}

-- What follows are the properties P of a view that the steps use; the letters are those of the six facts in docs/SEARCH.md.
-- The pair meets the rule and satisfies its body; it meets the rule and does not.
pub record Firing (r : Masks) (v : Pair) : Type 0 where
  pub meets : Meets r v
  pub fires : Fires r v v

pub record Idle (r : Masks) (v : Pair) : Type 0 where
  pub meets : Meets r v
  pub fails : Fires r v v → ⊥

-- (e) No statement is held and denied.
pub record Coherent (v : Pair) : Type 0 where
  pub apart : Apart v.held v.denied

-- (f) No taken exception outranks a taken one; the same of the exception at place a, which outranks those of rank.
pub record Levelled (ranks : List ℕ) (v : Pair) : Type 0 where
  pub level : Level ranks v.taken

pub record LevelledAt (rank a : ℕ) (v : Pair) : Type 0 where
  pub level : bit_of v.taken a ≡ 1 → Apart rank v.taken

-- No taken exception leads to a taken one by lines that count in the pair, if there are lines.
pub record Unlinked (ws : List ℕ) (n : ℕ) (ranks : List ℕ) (v : Pair) : Type 0 where
  pub lined : Lined ws n → Uncrossed ws n ranks v

-- The pair is a view by the rules alone, no preference stated.
abbrev pub Ruled : List ℕ → ℕ → Pair → Type 0
Ruled ws n = MaskView ws n []

-- Propagation takes b to o: every view within b is within o, and o is no wider than b.
pub record Propagated (ws : List ℕ) (n : ℕ) (ranks : List ℕ) (b o : Bounds) : Type 0 where
  pub keeps : Keeps (MaskView ws n ranks) b o
  pub lo : Sub b.lo o.lo
  pub hi : Sub o.hi b.hi
