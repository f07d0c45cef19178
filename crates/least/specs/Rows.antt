-- What the rules say of the sets below bounds, as rows: a set that has all that the row needs is to have one of the row's heads.
use Rattle.std.specs.Prelude.{ℕ, ◌+◌, ◌*◌, ◌<◌, ◌≤◌, List, get_or, set}
use Rattle.std.specs.Int.Bits.{bit_and}
use Rattle.sets.specs.declared.Pair.{Pair}
use Rattle.sets.specs.Pairs.{Sub, Off, meet_of}
use Rattle.masks.specs.declared.Masks.{Masks}
use Rattle.masks.specs.declared.Bounds.{Bounds}
use Rattle.masks.specs.Views.{Fires}
use Rattle.bounds.specs.Sound.{In}
use Rattle.least.specs.declared.rows.Row.{Row}
use Rattle.least.specs.Founded.{AnswersAll}

-- Row k of the words, four for each: what it needs, then its heads. A row has no exceptions.
unfoldable pub row_at : List ℕ → ℕ → Row
row_at rs k = record {
  need = record { taken = 0; held = get_or rs (k * 4) 0; denied = get_or rs (k * 4 + 1) 0 };
  head = record { taken = 0; held = get_or rs (k * 4 + 2) 0; denied = get_or rs (k * 4 + 3) 0 };
}

-- The words with the row r at place k.
unfoldable pub put_at : List ℕ → ℕ → Row → List ℕ
put_at rs k r = set (set (set (set rs (k * 4) r.need.held) (k * 4 + 1) r.need.denied) (k * 4 + 2) r.head.held) (k * 4 + 3) r.head.denied

-- The row of a rule: what it needs of the lower end of b, and its heads there. Every set below has the exceptions of the lower end.
unfoldable pub row_of : Masks → Bounds → Row
row_of r b = record {
  need = record { taken = 0; held = bit_and r.need.held b.lo.held; denied = bit_and r.need.denied b.lo.denied };
  head = record { taken = 0; held = bit_and r.head.held b.lo.held; denied = bit_and r.head.denied b.lo.denied };
}

-- The rule can ask a set below b for a head that the set lacks: it can fire within b, it has a head in the lower end, and what it needs there is no head.
pub record CanAsk (r : Masks) (b : Bounds) : Type 0 where
  pub possible : Fires r b.lo b.hi
  pub headed : Off r.head b.lo → ⊥
  pub apart : Off (meet_of r.need b.lo) r.head

-- The set c has all that the row needs and none of its heads.
pub record Unanswered (r : Row) (c : Pair) : Type 0 where
  pub needed : Sub r.need c
  pub lacks : Off r.head c

-- The set c answers the row; it answers the first m rows.
pub record AnswersRow (r : Row) (c : Pair) : Type 0 where
  pub answers : Unanswered r c → ⊥

pub record AnswersRows (rs : List ℕ) (m : ℕ) (c : Pair) : Type 0 where
  pub each : (k : ℕ) → k < m → AnswersRow (row_at rs k) c

-- The sets below b are among those from its exceptions to its lower end.
abbrev pub under : Bounds → Bounds
under b = record { lo = record { taken = b.lo.taken; held = 0; denied = 0 }; hi = b.lo }

-- The first m rows say what the first n rules say: a set under b answers the rows exactly where it answers the rules.
pub record Gathered (ws : List ℕ) (n : ℕ) (b : Bounds) (rs : List ℕ) (m : ℕ) : Type 0 where
  pub few : m ≤ n
  pub said : (c : Pair) → In (under b) c → AnswersAll ws n b c → AnswersRows rs m c
  pub meant : (c : Pair) → In (under b) c → AnswersRows rs m c → AnswersAll ws n b c
