-- Which pairs stand, and what is remembered while that is asked of many: dominating views that were found, and sets that stand.
use Rattle.std.specs.Prelude.{ℕ, ◌<◌, ◌≤◌, ◌≡◌, Bool, true, false, List, get_or, length, slice_set}
use Rattle.std.specs.Int.Bits.{bit_and}
use Rattle.sets.specs.declared.Pair.{Pair}
use Rattle.sets.specs.Sets.{bit_of, Within}
use Rattle.standing.specs.declared.memory.Row.{Row}
use Rattle.standing.specs.declared.memory.Memory.{Memory}
use Rattle.masks.specs.declared.Masks.{Masks}
use Rattle.masks.specs.declared.Bounds.{Bounds}
use Rattle.masks.specs.Views.{Fires, Counts, Leads, Alike, MaskView, from_at, to_at}
use Rattle.masks.specs.Steps.{LedTo}
use Rattle.sets.specs.Pairs.{Sub, Off, minus_of, Atom}
use Rattle.bounds.specs.Sound.{In, Keeps}
use Rattle.probe.specs.declared.Outcome.{Outcome}
use Rattle.probe.specs.declared.Outcome.TheVariants.{Has, Lacks}
use Rattle.admissible.specs.Admissible.{Stands}
use Rattle.superior.specs.Superiors.{Used}

-- The step of line j ranks in v: a line counts there that is the same step.
abbrev pub Ranking : List ℕ → ℕ → Pair → ℕ → Type 0
Ranking ws n v j = (i : ℕ) × (i < 32) × Counts ws n v i × Alike ws n i j

-- The set u has exactly the lines whose steps rank in v.
pub record Ranked (ws : List ℕ) (n : ℕ) (v : Pair) (u : ℕ) : Type 0 where
  pub only : (j : ℕ) → bit_of u j ≡ 1 → (j < 32) × Ranking ws n v j
  pub all : (j : ℕ) → j < 32 → Ranking ws n v j → bit_of u j ≡ 1

-- ---- what is remembered
-- A ban is a set t of exceptions and a set m of lines. It bars v if lines of m that count in v lead from a member of t to one that v takes.
pub record Bars (ws : List ℕ) (n : ℕ) (ranks : List ℕ) (t m : ℕ) (v : Pair) : Type 0 where
  pub upper : ℕ
  pub lower : ℕ
  pub upper_in : bit_of t upper ≡ 1
  pub lower_in : bit_of v.taken lower ≡ 1
  pub leads : Leads ws n ranks (Used ws n v m) upper lower

-- A ban is right if what it bars does not stand.
abbrev pub RightBan : List ℕ → ℕ → List ℕ → Bounds → ℕ → ℕ → Type 0
RightBan ws n ranks root t m = (v : Pair) → Bars ws n ranks t m v → Stands ws n ranks root v → ⊥

-- A free row is a set of exceptions and a set of lines too. It is right if a pair stands that takes no more, and in which no more lines' steps rank.
abbrev pub RightFree : List ℕ → ℕ → List ℕ → Bounds → ℕ → ℕ → Type 0
RightFree ws n ranks root t m = (v : Pair) → Within v.taken t → ((j : ℕ) → j < 32 → Ranking ws n v j → bit_of m j ≡ 1) → Stands ws n ranks root v

-- The memory has 32 bans and 8 free rows.
abbrev pub ban_at : Memory → ℕ → Row
ban_at mem k = get_or mem.bans k (record { taken = 0; lines = 0 })

abbrev pub free_at : Memory → ℕ → Row
free_at mem k = get_or mem.free k (record { taken = 0; lines = 0 })

-- All that is remembered is right.
pub record Right (ws : List ℕ) (n : ℕ) (ranks : List ℕ) (root : Bounds) (mem : Memory) : Type 0 where
  pub bans : (k : ℕ) → k < 32 → RightBan ws n ranks root (ban_at mem k).taken (ban_at mem k).lines
  pub free : (k : ℕ) → k < 8 → RightFree ws n ranks root (free_at mem k).taken (free_at mem k).lines

-- A row is put in the place of another. A ban is put into the memory: where all that was remembered is right and the ban is, all that is remembered after it is. The same of a free row.
pub record Put (rows rows' : List Row) (row : Row) : Type 0 where
  pub place : ℕ
  pub within : place < length rows
  pub is : rows' ≡ slice_set rows place row

pub record Banned (mem mem' : Memory) (t m : ℕ) : Type 0 where
  pub right : (ws : List ℕ) (n : ℕ) (ranks : List ℕ) (root : Bounds) → Right ws n ranks root mem → RightBan ws n ranks root t m → Right ws n ranks root mem'

pub record Freed (mem mem' : Memory) (t m : ℕ) : Type 0 where
  pub right : (ws : List ℕ) (n : ℕ) (ranks : List ℕ) (root : Bounds) → Right ws n ranks root mem → RightFree ws n ranks root t m → Right ws n ranks root mem'

-- A search for a view that dominates a pair with the exceptions t in which the steps of the lines of u rank: the memory stays right; if there is
-- none, t and u are a right free row; if there is one, such a pair does not stand.
pub record Searched (ws : List ℕ) (n : ℕ) (ranks : List ℕ) (root : Bounds) (t u : ℕ) (mem mem' : Memory) (r : Bool) : Type 0 where
  pub right : Right ws n ranks root mem → Right ws n ranks root mem'
  pub free : r ≡ true → RightFree ws n ranks root t u
  pub falls : r ≡ false → (v : Pair) → v.taken ≡ t → Ranked ws n v u → Stands ws n ranks root v → ⊥

-- ---- what the memory says of a pair
-- The row has these exceptions and these lines; some free row has.
pub record FreeRow (row : Row) (taken u : ℕ) : Type 0 where
  pub exceptions : Within taken row.taken
  pub lines : Within u row.lines

pub record KnownFree (mem : Memory) (taken u : ℕ) : Type 0 where
  pub row : ℕ
  pub small : row < 8
  pub has : FreeRow (free_at mem row) taken u

-- Steps of lines of m lead from a member of t to one of s.
pub record Crosses (ws : List ℕ) (n : ℕ) (ranks : List ℕ) (m t s : ℕ) : Type 0 where
  pub lower : ℕ
  pub member : bit_of s lower ≡ 1
  pub led : LedTo ws n ranks m t lower

-- Lines of m that ban k has lead from one of its exceptions to a member of s; those of some ban do.
abbrev pub BanRow : List ℕ → ℕ → List ℕ → Memory → ℕ → ℕ → ℕ → Type 0
BanRow ws n ranks mem m s k = Crosses ws n ranks (bit_and m (ban_at mem k).lines) (ban_at mem k).taken s

pub record KnownBarred (ws : List ℕ) (n : ℕ) (ranks : List ℕ) (mem : Memory) (m s : ℕ) : Type 0 where
  pub row : ℕ
  pub small : row < 32
  pub has : BanRow ws n ranks mem m s row

-- ---- bounds without what a ban bars
-- The pair does not satisfy the rule's body.
pub record Failing (r : Masks) (v : Pair) : Type 0 where
  pub fails : Fires r v v → ⊥

-- Line j begins at a member of s and ends at a member of t.
pub record Joins (ws : List ℕ) (n j s t : ℕ) : Type 0 where
  pub upper : ℕ
  pub lower : ℕ
  pub upper_in : bit_of s upper ≡ 1
  pub lower_in : bit_of t lower ≡ 1
  pub begins : bit_of (from_at ws n j) upper ≡ 1
  pub ends : bit_of (to_at ws n j) lower ≡ 1

-- No line of m from a member of s to one of t counts in v; the same of line j alone.
pub record ShutAt (ws : List ℕ) (n m s t j : ℕ) (v : Pair) : Type 0 where
  pub shut : bit_of m j ≡ 1 → Joins ws n j s t → Counts ws n v j → ⊥

pub record Shut (ws : List ℕ) (n m s t : ℕ) (v : Pair) : Type 0 where
  pub shut : (j : ℕ) → j < 32 → bit_of m j ≡ 1 → Joins ws n j s t → Counts ws n v j → ⊥

-- The lines of `sure` count in the pair, and the ban does not bar it.
pub record Spared (ws : List ℕ) (n : ℕ) (ranks : List ℕ) (sure t m : ℕ) (v : Pair) : Type 0 where
  pub counts : (j : ℕ) → bit_of sure j ≡ 1 → Counts ws n v j
  pub free : Bars ws n ranks t m v → ⊥

-- A view that stands.
pub record StandingView (ws : List ℕ) (n : ℕ) (ranks : List ℕ) (root : Bounds) (v : Pair) : Type 0 where
  pub view : MaskView ws n ranks v
  pub stands : Stands ws n ranks root v

-- The bounds o are those of b without pairs that a ban bars, if the memory is right, and no wider.
pub record Unbanned (ws : List ℕ) (n : ℕ) (ranks : List ℕ) (mem : Memory) (b o : Bounds) : Type 0 where
  pub keeps : (root : Bounds) → Right ws n ranks root mem → Keeps (StandingView ws n ranks root) b o
  pub lo : Sub b.lo o.lo
  pub hi : Sub o.hi b.hi

-- ---- where bounds are split
-- The member r is m, or it is one that is open in the bounds.
pub data Split (b : Bounds) (m r : Pair) : Type 0 where
  same : r ≡ m → Split b m r
  other : Atom r → (Off r r → ⊥) → Sub r (minus_of b.hi b.lo) → Split b m r

-- ---- what is found
-- If there is one, it is a view within b that stands; if not, no view within b stands.
pub record StandingIn (ws : List ℕ) (n : ℕ) (ranks : List ℕ) (root b : Bounds) (r : Bool) : Type 0 where
  pub found : r ≡ true → (v : Pair) × MaskView ws n ranks v × In b v × Stands ws n ranks root v
  pub none : r ≡ false → (v : Pair) → MaskView ws n ranks v → In b v → Stands ws n ranks root v → ⊥

-- The same of a search that may stop: where it stopped, it says nothing.
pub record AttemptedIn (ws : List ℕ) (n : ℕ) (ranks : List ℕ) (root b : Bounds) (r : Outcome) : Type 0 where
  pub found : (v : Pair) → r ≡ Has v → MaskView ws n ranks v × In b v × Stands ws n ranks root v
  pub none : (left : ℕ) → r ≡ Lacks left → (v : Pair) → MaskView ws n ranks v → In b v → Stands ws n ranks root v → ⊥

-- No view within b that stands has a subset of taken that lacks the exception at place e.
pub record UnexceededAt (ws : List ℕ) (n : ℕ) (ranks : List ℕ) (root b : Bounds) (taken e : ℕ) : Type 0 where
  pub has : (v : Pair) → MaskView ws n ranks v → In b v → Stands ws n ranks root v → Within v.taken taken → bit_of taken e ≤ bit_of v.taken e

-- The same of all members of taken.
pub record UnexceededIn (ws : List ℕ) (n : ℕ) (ranks : List ℕ) (root b : Bounds) (taken : ℕ) : Type 0 where
  pub has : (v : Pair) → MaskView ws n ranks v → In b v → Stands ws n ranks root v → Within v.taken taken → Within taken v.taken
