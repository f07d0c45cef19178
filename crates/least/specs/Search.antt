-- The search for a set within bounds that answers the rows and does not have the whole.
use Rattle.std.specs.Prelude.{ℕ, ◌<◌, ◌≡◌, List, Option, Some, None}
use Rattle.sets.specs.declared.Pair.{Pair}
use Rattle.sets.specs.Pairs.{Sub, Off, minus_of, Atom}
use Rattle.masks.specs.declared.Bounds.{Bounds}
use Rattle.bounds.specs.Sound.{In, Keeps}
use Rattle.least.specs.declared.Look.{Look}
use Rattle.least.specs.declared.Look.TheVariants.{Whole, Less, Open}
use Rattle.least.specs.Rows.{row_at, Unanswered, AnswersRows}

-- Each set within x that answers the first m rows has the whole.
pub record Alone (rs : List ℕ) (m : ℕ) (whole : Pair) (x : Bounds) : Type 0 where
  pub all : (c : Pair) → AnswersRows rs m c → In x c → Sub whole c

-- What a step on x uses of c: it has something of m; it does not have all of m.
pub record Has (m c : Pair) : Type 0 where
  pub some : Off m c → ⊥

pub record Lacks (m c : Pair) : Type 0 where
  pub fails : Sub m c → ⊥

-- Steps take x to y: no set that answers the rows is lost, and y is no wider than x.
pub record Lowered (rs : List ℕ) (m : ℕ) (x y : Bounds) : Type 0 where
  pub keeps : Keeps (AnswersRows rs m) x y
  pub lo : Sub x.lo y.lo
  pub hi : Sub y.hi x.hi

-- Of the first m rows one that c leaves unanswered, or none: then c answers them all.
pub record Asking (rs : List ℕ) (m : ℕ) (c : Pair) (o : Option ℕ) : Type 0 where
  pub none : o ≡ None → AnswersRows rs m c
  pub one : (k : ℕ) → o ≡ Some k → (k < m) × Unanswered (row_at rs k) c

-- y has every set within x that answers the rows, and h is one member that its upper end has and the lower has not.
pub record Halved (rs : List ℕ) (m : ℕ) (x y : Bounds) (h : Pair) : Type 0 where
  pub narrow : Lowered rs m x y
  pub ordered : Sub y.lo y.hi
  pub atom : Atom h
  pub some : Off h h → ⊥
  pub inside : Sub h (minus_of y.hi y.lo)

-- What a look at x says: every set that answers the rows has the whole; one has not; or narrower bounds and a member to split them by.
pub record Looked (rs : List ℕ) (m : ℕ) (whole : Pair) (x : Bounds) (r : Look) : Type 0 where
  pub full : r ≡ Whole → Alone rs m whole x
  pub less : r ≡ Less → Alone rs m whole x → ⊥
  pub halves : (y : Bounds) (h : Pair) → r ≡ Open y h → Halved rs m x y h
