-- What the functions promise that go along steps between exceptions.
use Rattle.std.specs.Prelude.{ℕ, Bool, true, false, ◌+◌, ◌<◌, ◌≡◌, List, ◌⊎◌, get_or}
use Rattle.sets.specs.Sets.{bit_of, Within}
use Rattle.sets.specs.declared.Pair.{Pair}
use Rattle.masks.specs.Views.{masks_at, Fires, from_at, to_at, Step, Leads, Alike}

-- Line j is one of the set m.
abbrev pub Of : ℕ → ℕ → Type 0
Of m j = bit_of m j ≡ 1

-- Steps lead to c from a member of t.
pub record LedTo (ws : List ℕ) (n : ℕ) (ranks : List ℕ) (m t c : ℕ) : Type 0 where
  pub begin : ℕ
  pub member : bit_of t begin ≡ 1
  pub leads : Leads ws n ranks (Of m) begin c

-- The set r has exactly what steps lead to from members of t.
pub record Reached (ws : List ℕ) (n : ℕ) (ranks : List ℕ) (m t r : ℕ) : Type 0 where
  pub only : (c : ℕ) → bit_of r c ≡ 1 → LedTo ws n ranks m t c
  pub all : (c : ℕ) → LedTo ws n ranks m t c → bit_of r c ≡ 1

-- The member x is one of t or of o.
abbrev pub Here : ℕ → ℕ → ℕ → Type 0
Here t o x = (bit_of t x ≡ 1) ⊎ (bit_of o x ≡ 1)

-- From o to r, through one step of sets: if a member of t or of o is in `from`, those of `to` are added; nothing else is.
pub record Grown (from to t o r : ℕ) : Type 0 where
  pub grow : Within o r
  pub adds : (x : ℕ) → bit_of from x ≡ 1 → Here t o x → Within to r
  pub only : (c : ℕ) → bit_of r c ≡ 1 → (bit_of o c ≡ 1) ⊎ ((x : ℕ) × (bit_of from x ≡ 1) × Here t o x × (bit_of to c ≡ 1))

-- What is in r is in o, or a step that P holds for leads to it from t or r.
pub record ByRanks (ranks : List ℕ) (k t o r : ℕ) : Type 0 where
  pub grow : Within o r
  pub adds : (a : ℕ) → a < k → Here t o a → Within (get_or ranks a 0) r
  pub keeps : (ws : List ℕ) (n m : ℕ) → ((c : ℕ) → bit_of o c ≡ 1 → LedTo ws n ranks m t c) → (c : ℕ) → bit_of r c ≡ 1 → LedTo ws n ranks m t c

pub record ByLines (ws : List ℕ) (n m k t o r : ℕ) : Type 0 where
  pub grow : Within o r
  pub adds : (j : ℕ) → j < k → bit_of m j ≡ 1 → (a : ℕ) → bit_of (from_at ws n j) a ≡ 1 → Here t o a → Within (to_at ws n j) r
  pub keeps : (ranks : List ℕ) → ((c : ℕ) → bit_of o c ≡ 1 → LedTo ws n ranks m t c) → (c : ℕ) → bit_of r c ≡ 1 → LedTo ws n ranks m t c

-- Line k, after those before it.
pub record ByLine (ws : List ℕ) (n m k t p r : ℕ) : Type 0 where
  pub next : (o : ℕ) → ByLines ws n m k t o p → ByLines ws n m (k + 1) t o r

-- A pass over all steps: each step from t or o leads into r.
pub record Passed (ws : List ℕ) (n : ℕ) (ranks : List ℕ) (m t o r : ℕ) : Type 0 where
  pub grow : Within o r
  pub adds : (a c : ℕ) → Step ws n ranks (Of m) a c → Here t o a → bit_of r c ≡ 1
  pub keeps : ((c : ℕ) → bit_of o c ≡ 1 → LedTo ws n ranks m t c) → (c : ℕ) → bit_of r c ≡ 1 → LedTo ws n ranks m t c

-- The set r has exactly those numbers below k that have the property.
pub record Chosen (P : ℕ → Type 0) (k r : ℕ) : Type 0 where
  pub only : (j : ℕ) → bit_of r j ≡ 1 → (j < k) × P j
  pub all : (j : ℕ) → j < k → P j → bit_of r j ≡ 1

-- The set r has those numbers below k for which a test may say yes; it may say no for the others.
pub record Passing (P : ℕ → Bool → Type 0) (k r : ℕ) : Type 0 where
  pub only : (j : ℕ) → bit_of r j ≡ 1 → (j < k) × P j true
  pub all : (j : ℕ) → j < k → (bit_of r j ≡ 1) ⊎ P j false

-- The set r has the lines whose needed entries are in c and whose barred ones are not in v.
abbrev pub Counting : List ℕ → ℕ → Pair → Pair → ℕ → Type 0
Counting ws n v c r = Chosen (λ j. Fires (masks_at ws (n + j)) v c) 32 r

-- The set r has the lines that are the same step as one of the first k lines of m.
pub record Mates (ws : List ℕ) (n m k r : ℕ) : Type 0 where
  pub only : (j : ℕ) → bit_of r j ≡ 1 → (j < 32) × ((i : ℕ) × (i < 32) × (bit_of m i ≡ 1) × Alike ws n i j)
  pub all : (j : ℕ) → j < 32 → (i : ℕ) → i < k → bit_of m i ≡ 1 → Alike ws n i j → bit_of r j ≡ 1

-- Line k, after those before it.
pub record MatesOf (ws : List ℕ) (n m k p r : ℕ) : Type 0 where
  pub next : Mates ws n m k p → Mates ws n m (k + 1) r
