-- The rules in chains and rows by their heads, and which rules can give a conclusion within bounds (docs/SEARCH.md, fact (d)).
use Rattle.std.specs.Prelude.{ℕ, ◌+◌, ◌-◌, ◌<◌, ◌≤◌, ◌≡◌, List, ◌⊎◌, get_or, set}
use Rattle.sets.specs.declared.Pair.{Pair}
use Rattle.sets.specs.Sets.{bit_of, Within}
use Rattle.sets.specs.Pairs.{Sub, Off, minus_of}
use Rattle.masks.specs.declared.Masks.{Masks}
use Rattle.masks.specs.declared.Bounds.{Bounds}
use Rattle.masks.specs.Views.{masks_at, Fires, Constraint}
use Rattle.bounds.specs.Singles.{one_of}
use Rattle.bounds.specs.Sound.{Firing}
use Rattle.queue.specs.declared.heads.Givers.{Givers}
use Rattle.queue.specs.declared.heads.Givers.TheVariants.{Nobody, One, Several}
use Rattle.queue.specs.Places.{first_at, next_at, row_at, whole_place, cut_place, rows_place}

-- Rule k has the conclusion at place i of word s in its head.
abbrev pub Gives : List ℕ → ℕ → ℕ → ℕ → Type 0
Gives ws s i k = Sub (one_of s i) (masks_at ws k).head

-- Of the rules from `from` on none with a head stands before the first of its chain, nor between one of the chain and the next.
pub record ChainsFrom (ws : List ℕ) (n : ℕ) (index : List ℕ) (from : ℕ) : Type 0 where
  pub first : (s i k : ℕ) → s < 2 → i < 64 → from ≤ k → k < n → Gives ws s i k → get_or index (first_at s i) 0 ≤ k
  pub next : (s i j k : ℕ) → s < 2 → i < 64 → from ≤ j → j < k → k < n → Gives ws s i j → Gives ws s i k → get_or index (next_at j) 0 ≤ k

-- How many rules are in chains: those before the first with alternatives.
abbrev pub cut : List ℕ → ℕ
cut index = get_or index cut_place 0

-- The row of a conclusion names each rule from c to before n that has it in its head: rule c + j by its digit j.
pub record Rows (ws : List ℕ) (n c : ℕ) (index : List ℕ) : Type 0 where
  pub row : (s i k : ℕ) → s < 2 → i < 64 → c ≤ k → k < n → Gives ws s i k → bit_of (get_or index (row_at s i) 0) (k - c) ≡ 1

-- The word names each of these rules that has m in its head.
abbrev pub Named : List ℕ → ℕ → ℕ → Pair → ℕ → Type 0
Named ws n c m w = (k : ℕ) → c ≤ k → k < n → Sub m (masks_at ws k).head → bit_of w (k - c) ≡ 1

-- The index has the chains of that many of the n rules, if it says so, and the rows of the others, if they are not more than a row holds.
pub record Chains (ws : List ℕ) (n : ℕ) (index : List ℕ) : Type 0 where
  pub few : n ≤ 256
  pub upto : cut index ≤ n
  pub whole : get_or index whole_place 0 ≡ 1 → ChainsFrom ws (cut index) index 0
  pub rows : n ≤ cut index + 64 → Rows ws n (cut index) index

-- The rows lose nothing, and what stands before them stays.
pub record Grown (before after : List ℕ) : Type 0 where
  pub more : (p : ℕ) → Within (get_or before p 0) (get_or after p 0)
  pub kept : (p : ℕ) → p < rows_place → get_or after p 0 ≡ get_or before p 0

-- The rows of m's members, counted from place `from`, get the digit j.
pub record Put (before : List ℕ) (from m j : ℕ) (after : List ℕ) : Type 0 where
  pub grown : Grown before after
  pub has : (i : ℕ) → bit_of m i ≡ 1 → bit_of (get_or after (from + i) 0) j ≡ 1

-- The rows of the rule's heads get the digit j.
pub record HeadsPut (before : List ℕ) (r : Masks) (j : ℕ) (after : List ℕ) : Type 0 where
  pub grown : Grown before after
  pub has : (s i : ℕ) → s < 2 → Sub (one_of s i) r.head → bit_of (get_or after (row_at s i) 0) j ≡ 1

-- The rules from c to before n are put into rows.
pub record RowsPut (ws : List ℕ) (n c : ℕ) (before after : List ℕ) : Type 0 where
  pub grown : Grown before after
  pub rows : n ≤ c + 64 → Rows ws n c after

-- Rule k is put before the rules with its head; a constraint changes nothing.
pub data Chained (before : List ℕ) (r : Masks) (k : ℕ) (after : List ℕ) : Type 0 where
  headless : Constraint r → after ≡ before → Chained before r k after
  headed : (s i : ℕ) → s < 2 → i < 64 → r.head ≡ one_of s i → after ≡ set (set before (next_at k) (get_or before (first_at s i) 0)) (first_at s i) k → Chained before r k after

-- Of the rules before p that can fire within b and have m in their head, and no other head that is sure, there is none but the one that g names,
-- unless g says that there are several.
pub record Seen (ws : List ℕ) (n p : ℕ) (m : Pair) (b : Bounds) (g : Givers) : Type 0 where
  pub rule : (k : ℕ) → g ≡ One k → k < n
  pub only : (k : ℕ) → k < n → k < p → Fires (masks_at ws k) b.lo b.hi → Sub m (masks_at ws k).head → Off (minus_of (masks_at ws k).head m) b.lo
      → (g ≡ One k) ⊎ (g ≡ Several)

-- One more rule takes g to h.
pub data Counted (r : Masks) (b : Bounds) (k : ℕ) (g h : Givers) : Type 0 where
  idle : (Fires r b.lo b.hi → ⊥) → h ≡ g → Counted r b k g h
  sole : g ≡ Nobody → h ≡ One k → Counted r b k g h
  more : h ≡ Several → Counted r b k g h

-- One more rule takes g to h, if it can give m.
pub data Weighed (r : Masks) (b : Bounds) (m : Pair) (k : ℕ) (g h : Givers) : Type 0 where
  passed : (Sub m r.head → Off (minus_of r.head m) b.lo → ⊥) → h ≡ g → Weighed r b m k g h
  counted : Counted r b k g h → Weighed r b m k g h

-- If the pair has m, it meets the rule r, satisfies its body and has none of its heads beside m.
pub record FiringFor (r : Masks) (m v : Pair) : Type 0 where
  pub firing : Sub m v → Firing r v
  pub beside : Sub m v → Off r.head (minus_of v m)
