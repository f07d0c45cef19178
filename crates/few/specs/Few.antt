-- What the gathering of few views promises: the store has all views within the bounds, in any order; the page has them in the order of pairs.
use Rattle.std.specs.Prelude.{Option, IfSome, MatchOption, ℕ, ◌<◌, ◌≤◌, Bool, true, false, ◌≡◌, List, ◌⊎◌}
use Rattle.logic.specs.Lists.{Among}
use Rattle.sets.specs.declared.Pair.{Pair}
use Rattle.sets.specs.Sets.{Apart}
use Rattle.masks.specs.declared.Bounds.{Bounds}
use Rattle.masks.specs.Views.{MaskView}
use Rattle.bounds.specs.Sound.{In}
use Rattle.meaning.specs.Order.{Before, Ascending}
use Rattle.page.specs.Sought.{Sought}
use Rattle.few.specs.declared.Place.{Place}
use Rattle.page.specs.Pages.{pair_at, pairs_in, Page}

-- How many views the store has room for.
abbrev pub most : ℕ
most = 32

-- ---- in any order
-- The list has the views within the bounds, all of them and nothing else.
pub record Stock (ws : List ℕ) (n : ℕ) (ranks : List ℕ) (b : Bounds) (ys : List Pair) : Type 0 where
  pub only : (v : Pair) → Among v ys → MaskView ws n ranks v × In b v
  pub all : (v : Pair) → MaskView ws n ranks v → In b v → Among v ys

-- A view is found where the place moves. Where fuel is left and the store is not full up to `cap`, it has all views within the bounds from
-- place k on.
pub record Gathered (ws : List ℕ) (n : ℕ) (ranks : List ℕ) (b : Bounds) (cap k fuel : ℕ) (o o' : List ℕ) (r : Place) : Type 0 where
  pub few : r.at ≤ cap
  pub less : r.fuel ≤ fuel
  pub some : k < r.at → (v : Pair) × MaskView ws n ranks v × In b v
  pub whole : 0 < r.fuel → r.at < cap → (ys : List Pair) × Page cap k o o' ys r.at × Stock ws n ranks b ys

-- The same of a store that is filled from its start: the first r pairs are the views, if there are fewer than `cap`.
pub record Collected (ws : List ℕ) (n : ℕ) (ranks : List ℕ) (b : Bounds) (cap : ℕ) (store : List ℕ) (r : ℕ) : Type 0 where
  pub few : r ≤ cap
  pub some : 0 < r → (v : Pair) × MaskView ws n ranks v × In b v
  pub whole : r < cap → Stock ws n ranks b (pairs_in store 0 r)

-- ---- in order
-- Whether a comes before b. If both take the same exceptions and are coherent and it is not so, they are the same or b comes before a.
pub record Sooner (a b : Pair) (r : Bool) : Type 0 where
  pub yes : r ≡ true → a.taken ≡ b.taken → Before a b
  pub no : r ≡ false → a.taken ≡ b.taken → Apart a.held a.denied → Apart b.held b.denied → (a ≡ b) ⊎ Before b a

-- The first k pairs of the store take the same exceptions and are coherent.
pub record Alike (store : List ℕ) (k : ℕ) : Type 0 where
  pub taken : (i j : ℕ) → i < k → j < k → (pair_at store i).taken ≡ (pair_at store j).taken
  pub coherent : (i : ℕ) → i < k → Apart (pair_at store i).held (pair_at store i).denied

-- If there is a pair at place `last`, the one at place i is later; if there is one at place `best`, the one at place i comes before it.
abbrev pub After : List ℕ → ℕ → Option ℕ → ℕ → Type 0
After store k last i = IfSome last (λ l. l < k → Before (pair_at store l) (pair_at store i))

abbrev pub Ahead : List ℕ → ℕ → ℕ → Option ℕ → Type 0
Ahead store k i best = IfSome best (λ l. l < k → Before (pair_at store i) (pair_at store l))

-- There is a pair at place r, and it is no later than the one at place i.
abbrev pub NoLater : List ℕ → ℕ → Option ℕ → ℕ → Type 0
NoLater store k r i = MatchOption r ⊥ (λ l. (l < k) × ((pair_at store l ≡ pair_at store i) ⊎ Before (pair_at store l) (pair_at store i)))

-- Whether the pair at place i is later than the one at place `last`; whether it comes before the one at place `best`. Where there is no such
-- pair, it is and does.
pub record Follows (store : List ℕ) (k : ℕ) (last : Option ℕ) (i : ℕ) (r : Bool) : Type 0 where
  pub yes : Alike store k → r ≡ true → After store k last i
  pub no : Alike store k → r ≡ false → After store k last i → ⊥

pub record Leads (store : List ℕ) (k i : ℕ) (best : Option ℕ) (r : Bool) : Type 0 where
  pub yes : Alike store k → r ≡ true → Ahead store k i best
  pub no : Alike store k → r ≡ false → NoLater store k best i

-- Of the first i pairs the one at place r is the first of those that are later than the one at place `last`, or there is none.
pub record FirstOf (store : List ℕ) (k : ℕ) (last : Option ℕ) (i : ℕ) (r : Option ℕ) : Type 0 where
  pub upto : IfSome r (λ l. l < k)
  pub later : Alike store k → IfSome r (λ l. After store k last l)
  pub first : Alike store k → (j : ℕ) → j < i → After store k last j → NoLater store k r j

-- The list ascends and has the first k pairs of the store, all of them and nothing else.
pub record Sorts (store : List ℕ) (k : ℕ) (zs : List Pair) : Type 0 where
  pub ascending : Ascending zs
  pub all : (i : ℕ) → i < k → Among (pair_at store i) zs
  pub only : (z : Pair) → Among z zs → (i : ℕ) × (i < k) × (z ≡ pair_at store i)

-- The page of the first k pairs of the store in order.
pub record PutSorted (store : List ℕ) (k room at : ℕ) (o o' : List ℕ) (r : ℕ) : Type 0 where
  pub fits : r ≤ room
  pub page : Alike store k → (zs : List Pair) → Sorts store k zs → Page room at o o' zs r

-- ---- the page
-- Pairs within the bounds take the same exceptions.
pub record OneSet (b : Bounds) : Type 0 where
  pub same : (v w : Pair) → In b v → In b w → v.taken ≡ w.taken

-- The page of the first k pairs of the store in order, if these are the views within the bounds and take the same exceptions.
pub record AllListed (ws ranks : List ℕ) (q : Sought) (b : Bounds) (store : List ℕ) (k at : ℕ) (o o' : List ℕ) (r : ℕ) : Type 0 where
  pub fits : r ≤ q.room
  pub page : Stock ws q.rules ranks b (pairs_in store 0 k) → OneSet b → (zs : List Pair) → Ascending zs → Stock ws q.rules ranks b zs → Page q.room at o o' zs r
