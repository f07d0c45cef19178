-- What the walk knows of the book whose words it reads, and what it says of one set of exceptions.
use Rattle.std.specs.Prelude.{◌≡◌, ℕ, ◌^◌, ◌<◌, ◌≤◌, Bool, true, false, List, length, ◌≢◌, Option, None, Some}
use Rattle.logic.specs.Tests.{Decides}
use Rattle.sets.specs.declared.Pair.{Pair}
use Rattle.sets.specs.Sets.{Within}
use Rattle.masks.specs.declared.Bounds.{Bounds}
use Rattle.masks.specs.Views.{MaskView}
use Rattle.bounds.specs.Sound.{In, Propagated, with_sets}
use Rattle.admissible.specs.Admissible.{Undominated, Stands, Unexceeded}
use Rattle.queue.specs.declared.Rest.{Rest}
use Rattle.page.specs.Sought.{Sought}
use Rattle.page.specs.Orders.{Begins}
use Rattle.page.specs.Pages.{Page}
use Rattle.few.specs.Few.{Collected}
use Rattle.meaning.specs.Books.{Book}
use Rattle.meaning.specs.Order.{Point}
use Rattle.meaning.proofs.Parts.{Part}
use Rattle.resolution.specs.Rooted.{Rooted}
use Rattle.marking.specs.Marks.{marks_in, IsMarked, NoneAt, RightMarks}
use Rattle.ranges.specs.Ranges.{NoView}
use Rattle.standing.specs.declared.memory.Memory.{Memory}
use Rattle.standing.specs.Standing.{Right}
use Rattle.sifting.specs.Sifted.{Serves}
use Rattle.one_set.specs.declared.Views.{Views}

-- A view within root has the set t.
pub record HasView (ws : List ℕ) (n : ℕ) (ranks : List ℕ) (root : Bounds) (t : ℕ) : Type 0 where
  pub some : (v : Pair) × MaskView ws n ranks v × In root v × (v.taken ≡ t)

-- If a view that stands has the set u, every proper superset of u that is a word and has a bit is marked.
pub record Told (ws : List ℕ) (n : ℕ) (ranks : List ℕ) (root : Bounds) (marks : List ℕ) (u : ℕ) : Type 0 where
  pub above : (v : Pair) → MaskView ws n ranks v → In root v → Stands ws n ranks root v → v.taken ≡ u
      → (t : ℕ) → t < marks_in marks → t < 2 ^ 64 → Within u t → (t ≢ u) → IsMarked marks t

-- That is so of each marked set.
pub record Full (ws : List ℕ) (n : ℕ) (ranks : List ℕ) (root : Bounds) (marks : List ℕ) : Type 0 where
  pub told : (u : ℕ) → IsMarked marks u → Told ws n ranks root marks u

-- Marks that are right for the book stay so; what is marked stays marked; there are as many words; full marks stay full.
pub record MarksRight (ws : List ℕ) (n : ℕ) (ranks : List ℕ) (root : Bounds) (before after : List ℕ) : Type 0 where
  pub stay : (b : Book) → Rooted b ws n ranks root → RightMarks b before → RightMarks b after
  pub kept : (t : ℕ) → IsMarked before t → IsMarked after t
  pub same : length after ≡ length before
  pub full : Full ws n ranks root before → Full ws n ranks root after

-- Where known is true, no view that stands has a proper subset of t, if t is not marked.
abbrev pub Rests : List ℕ → ℕ → List ℕ → Bounds → ℕ → Bool → List ℕ → Type 0
Rests ws n ranks root t known marks = known ≡ true → (IsMarked marks t → ⊥) → Unexceeded ws n ranks root t

-- The views with the set t: there is none, or there is one, all are within the bounds at rest, and the store has them up to `cap`. The marks stay right.
pub record Gathered (ws : List ℕ) (n : ℕ) (ranks : List ℕ) (root : Bounds) (t cap : ℕ) (before after store : List ℕ) (r : Option Views) : Type 0 where
  pub marks : MarksRight ws n ranks root before after
  pub none : r ≡ None → NoView ws n ranks root t t
  pub some : (g : Views) → r ≡ Some g → HasView ws n ranks root t
  pub bounds : (g : Views) → r ≡ Some g → Propagated ws n ranks (with_sets root t t) g.rest.bounds
  pub collected : (g : Views) → r ≡ Some g → Collected ws n ranks g.rest.bounds cap store g.count

-- In a book without Q lines: whether a resolution can have the set t. If not, none has it; if so, no view dominates it, and none that stands has a proper
-- subset. The marks stay right, and tell of t afterwards.
pub record Admits (ws : List ℕ) (n : ℕ) (ranks : List ℕ) (root : Bounds) (t : ℕ) (known : Bool) (before after : List ℕ) (r : Bool) : Type 0 where
  pub marks : MarksRight ws n ranks root before after
  pub told : Told ws n ranks root after t
  pub refuses : r ≡ false → (b : Book) → Rooted b ws n ranks root → RightMarks b before → NoneAt b t
  pub undominated : r ≡ true → Undominated ws n ranks root t
  pub unexceeded : r ≡ true → Rests ws n ranks root t known before → Unexceeded ws n ranks root t

-- No view within root that has the set t stands.
pub record NoneStands (ws : List ℕ) (n : ℕ) (ranks : List ℕ) (root : Bounds) (t : ℕ) : Type 0 where
  pub none : (v : Pair) → MaskView ws n ranks v → In root v → v.taken ≡ t → Stands ws n ranks root v → ⊥

-- In a book with Q lines: whether a view with the set t stands, if what is remembered is right; where one does, all views with the set are within the bounds
-- at rest. Marks and memory stay right.
pub record Looked (ws : List ℕ) (n : ℕ) (ranks : List ℕ) (root : Bounds) (t : ℕ) (m m' : List ℕ) (w w' : Memory) (r : Option Rest) : Type 0 where
  pub marks : MarksRight ws n ranks root m m'
  pub memory : Right ws n ranks root w → Right ws n ranks root w'
  pub none : Right ws n ranks root w → r ≡ None → NoneStands ws n ranks root t
  pub some : (c : Rest) → Right ws n ranks root w → r ≡ Some c → HasView ws n ranks root t
  pub bounds : (c : Rest) → r ≡ Some c → Propagated ws n ranks (with_sets root t t) c.bounds

-- In a book with Q lines: whether no view that stands has a proper subset of t, as far as that is not known.
pub record NoneBelow (ws : List ℕ) (n : ℕ) (ranks : List ℕ) (root : Bounds) (t : ℕ) (known : Bool) (w w' : Memory) (r : Bool) : Type 0 where
  pub memory : Right ws n ranks root w → Right ws n ranks root w'
  pub sure : known ≡ true → r ≡ true
  pub test : Right ws n ranks root w → known ≡ false → Decides r (Unexceeded ws n ranks root t)

-- One set of exceptions: the page of the resolutions that have it and are later than the point, if H holds of its proper subsets. Marks and memory stay
-- right, and where every set before it has been walked, all its resolutions were asked for and there was room, the marks tell of it.
pub record SetListed (ws ranks : List ℕ) (root : Bounds) (q : Sought) (t : ℕ) (after known : Bool) (H : Type 0) (k : ℕ) (m m' : List ℕ) (w w' : Memory) (o o' : List ℕ) (r : ℕ) : Type 0 where
  pub most : r ≤ q.room
  pub kept : (u : ℕ) → IsMarked m u → IsMarked m' u
  pub same : length m' ≡ length m
  pub full : Full ws q.rules ranks root m → Full ws q.rules ranks root m'
  pub memory : Right ws q.rules ranks root w → Right ws q.rules ranks root w'
  pub stay : (b : Book) → Serves b ws ranks root q → Right ws q.rules ranks root w → RightMarks b m → RightMarks b m'
  pub told : (b : Book) → Serves b ws ranks root q → Right ws q.rules ranks root w → known ≡ true → after ≡ false → k < q.room → Full ws q.rules ranks root m
      → Told ws q.rules ranks root m' t
  pub part : (b : Book) (from : Point) → Serves b ws ranks root q → Right ws q.rules ranks root w → RightMarks b m → H → Begins b from t after q.point
      → (ys : List Pair) × Page q.room k o o' ys r × Part b from (λ p. p.taken ≡ t) ys

-- The same, if the bounds at rest have all views with the set, of which there is one; but of the page's length and of what is marked in any case.
pub record OpenListed (ws ranks : List ℕ) (root : Bounds) (q : Sought) (t : ℕ) (c : Bounds) (after : Bool) (k : ℕ) (m m' : List ℕ) (w w' : Memory) (o o' : List ℕ) (r : ℕ) : Type 0 where
  pub most : r ≤ q.room
  pub kept : (u : ℕ) → IsMarked m u → IsMarked m' u
  pub same : length m' ≡ length m
  pub full : Full ws q.rules ranks root m → Full ws q.rules ranks root m'
  pub listed : HasView ws q.rules ranks root t → Propagated ws q.rules ranks (with_sets root t t) c → SetListed ws ranks root q t after true (Unexceeded ws q.rules ranks root t) k m m' w w' o o' r
