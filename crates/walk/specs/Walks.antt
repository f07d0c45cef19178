-- The walk over the sets of exceptions: what has been passed, and the page that it leaves.
use Rattle.std.specs.Prelude.{ℕ, zero, suc, ◌^◌, ◌<◌, ◌≤◌, ◌≡◌, Bool, true, false, List, ◌⊎◌, Result, Ok, Err, length}
use Rattle.sets.specs.declared.Pair.{Pair}
use Rattle.sets.specs.Sets.{without}
use Rattle.order.specs.Formula.{set_at}
use Rattle.masks.specs.declared.Bounds.{Bounds}
use Rattle.page.specs.Sought.{Sought}
use Rattle.page.specs.Pages.{Page}
use Rattle.meaning.specs.Books.{Book}
use Rattle.meaning.specs.Order.{Point, start, at, LawfulPoint, Later, AllLater}
use Rattle.meaning.proofs.Parts.{Part}
use Rattle.walk.specs.declared.Position.{Position}
use Rattle.walk.specs.declared.Span.{Span}
use Rattle.marking.specs.Marks.{marks_in, IsMarked, RightMarks}
use Rattle.standing.specs.declared.memory.Memory.{Memory}
use Rattle.standing.specs.Standing.{Right}
use Rattle.sifting.specs.Sifted.{Serves}
use Rattle.one_set.specs.Plans.{Told, Full}

-- The pair's set of exceptions stands at one of the first j places of the order of the sets of x exceptions.
abbrev pub Passed : ℕ → ℕ → Pair → Type 0
Passed x zero p = ⊥
Passed x (suc j) p = Passed x j p ⊎ (set_at x j ≡ p.taken)

-- A look is enough to see that no resolution has the set t: it is marked, or it is not between the sets of root.
pub data RuledOut (root : Bounds) (marks : List ℕ) (t : ℕ) : Type 0 where
  marked : IsMarked marks t → RuledOut root marks t
  beyond : (without t root.hi.taken ≡ 0 → ⊥) → RuledOut root marks t
  short : (without root.lo.taken t ≡ 0 → ⊥) → RuledOut root marks t

-- The set stands at the place of the order of the sets of x exceptions, unless that is its end.
pub record AtPlace (x : ℕ) (p : Position) : Type 0 where
  pub to : p.place ≤ 2 ^ x
  pub is : p.place < 2 ^ x → p.set ≡ set_at x p.place

-- The sets that stand between the root's are those from place `first` on and before place `past`, at most: before them none has all that root asks for,
-- after them each has what root does not allow.
pub record Spanned (x : ℕ) (root : Bounds) (s : Span) : Type 0 where
  pub before : (i : ℕ) → i < s.first → i < 2 ^ x → without root.lo.taken (set_at x i) ≡ 0 → ⊥
  pub after : (i : ℕ) → s.past ≤ i → i < 2 ^ x → without (set_at x i) root.hi.taken ≡ 0 → ⊥
  pub to : s.past ≤ 2 ^ x

-- From place p to place r a look is enough.
pub record Skipping (x : ℕ) (root : Bounds) (marks : List ℕ) (p r : Position) : Type 0 where
  pub from : p.place ≤ r.place
  pub stands : AtPlace x r
  pub ruled_out : (i : ℕ) → p.place ≤ i → i < r.place → RuledOut root marks (set_at x i)

-- The place r is the first from p on at which a look is not enough, and one before `past`.
pub record Stops (x past : ℕ) (root : Bounds) (marks : List ℕ) (p r : Position) : Type 0 where
  pub over : Skipping x root marks p r
  pub to : r.place < past
  pub undecided : RuledOut root marks r.set → ⊥

-- That place is r; or there is none from p on before `past`, and r is the place past these.
pub record Skipped (x past : ℕ) (root : Bounds) (marks : List ℕ) (p : Position) (r : Result Position Position) : Type 0 where
  pub some : (s : Position) → r ≡ Ok s → Stops x past root marks p s
  pub none : (s : Position) → r ≡ Err s → (past ≤ s.place) × Skipping x root marks p s

-- From place j on every pair is later than the point.
pub record Beyond (x : ℕ) (from : Point) (j : ℕ) : Type 0 where
  pub later : (i : ℕ) → j ≤ i → i < 2 ^ x → (p : Pair) → set_at x i ≡ p.taken → Later from p

-- The sets at the places before j have been walked with these marks: the marks tell of each of them, and of each marked set, and every set has a bit.
pub record Ready (ws : List ℕ) (n : ℕ) (ranks : List ℕ) (root : Bounds) (x j : ℕ) (marks : List ℕ) : Type 0 where
  pub full : Full ws n ranks root marks
  pub long : 2 ^ x ≤ marks_in marks
  pub told : (i : ℕ) → i < j → Told ws n ranks root marks (set_at x i)

-- The walk from place j of the sets of x exceptions, in a book that has no more: with the page of all that stands at the places before it, it makes
-- the page of all later resolutions.
pub record Walked (ws ranks : List ℕ) (root : Bounds) (q : Sought) (x j : ℕ) (known : Bool) (k : ℕ) (m : List ℕ) (w : Memory) (o o' : List ℕ) (r : ℕ) : Type 0 where
  pub whole : (b : Book) (from : Point) → Serves b ws ranks root q → length b.exceptions ≤ x → RightMarks b m → Right ws q.rules ranks root w → (known ≡ true → Ready ws q.rules ranks root x j m) → LawfulPoint b from → Beyond x from j
      → (blank : List ℕ) (xs : List Pair) → Part b from (Passed x j) xs → Page q.room 0 blank o xs k
      → (zs : List Pair) × AllLater b from zs × Page q.room 0 blank o' zs r

-- Where a page begins: before the first pair, or after the task's point.
unfoldable pub beginning : Bool → Sought → Point
beginning false q = start
beginning true q = at q.point

-- The page of the first resolutions after the beginning, in a book of at most x exceptions.
pub record Paged (ws ranks : List ℕ) (root : Bounds) (q : Sought) (x : ℕ) (after : Bool) (o o' : List ℕ) (r : ℕ) : Type 0 where
  pub page : (b : Book) → Serves b ws ranks root q → length b.exceptions ≤ x → LawfulPoint b (beginning after q) → (zs : List Pair) × AllLater b (beginning after q) zs × Page q.room 0 o o' zs r
