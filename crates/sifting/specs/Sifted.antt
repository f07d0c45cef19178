-- The views with one set of exceptions that stand, in the order of pairs.
use Rattle.std.specs.Prelude.{◌≡◌, ℕ, ◌^◌, ◌<◌, ◌≤◌, Bool, List, length}
use Rattle.sets.specs.declared.Pair.{Pair}
use Rattle.masks.specs.declared.Bounds.{Bounds}
use Rattle.masks.specs.Views.{MaskView}
use Rattle.bounds.specs.Sound.{In}
use Rattle.page.specs.Sought.{Sought}
use Rattle.page.specs.Orders.{PartOf, Begins}
use Rattle.page.specs.Pages.{Page}
use Rattle.meaning.specs.Books.{Book, Lawful}
use Rattle.meaning.specs.Order.{Point}
use Rattle.resolution.specs.Rooted.{Rooted}
use Rattle.standing.specs.declared.memory.Memory.{Memory}
use Rattle.standing.specs.Standing.{Right, StandingView}

-- A part of the search: its place is in the room or at its end, the memory stays right, and where the memory is right, S holds of what is put on the page.
pub record Sifts (ws ranks : List ℕ) (root : Bounds) (q : Sought) (w w' : Memory) (r : ℕ) (S : Type 0) : Type 0 where
  pub most : r ≤ q.room
  pub memory : Right ws q.rules ranks root w → Right ws q.rules ranks root w'
  pub page : Right ws q.rules ranks root w → S

-- The task is one of the book: its words, its views within root, its statements.
pub record Serves (b : Book) (ws ranks : List ℕ) (root : Bounds) (q : Sought) : Type 0 where
  pub rooted : Rooted b ws q.rules ranks root
  pub statements : q.statements ≡ b.statements

-- What a task asks of one set t, all of whose views are within the bounds c: the listing begins at the point, or before the first pair with that set.
pub record Asked (b : Book) (from : Point) (ws ranks : List ℕ) (root : Bounds) (q : Sought) (t : ℕ) (c : Bounds) (w : Memory) (later : Bool) (point : Pair) : Type 0 where
  pub serves : Serves b ws ranks root q
  pub has : t < 2 ^ length b.exceptions
  pub right : Right ws q.rules ranks root w
  pub begins : Begins b from t later point
  pub bounded : (p : Pair) → Lawful b p → p.taken ≡ t → MaskView ws q.rules ranks p → In c p

-- The page of the views that stand.
pub record AllSifted (ws ranks : List ℕ) (root : Bounds) (q : Sought) (t : ℕ) (c : Bounds) (after : Bool) (k : ℕ) (w w' : Memory) (o o' : List ℕ) (r : ℕ) : Type 0 where
  pub most : r ≤ q.room
  pub memory : Right ws q.rules ranks root w → Right ws q.rules ranks root w'
  pub part : (b : Book) (from : Point) → Asked b from ws ranks root q t c w after q.point
      → (ys : List Pair) × Page q.room k o o' ys r × PartOf b from t (StandingView ws q.rules ranks root) ys
