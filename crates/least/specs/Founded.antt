-- The sets below the lower end of bounds that are closed as far as the bounds tell. If the lower end is not the only one, there is no view within the
-- bounds; for the bounds from v to v, v has no closed proper subset exactly where it is the only one.
use Rattle.std.specs.Prelude.{ℕ, ◌<◌, List}
use Rattle.sets.specs.declared.Pair.{Pair}
use Rattle.sets.specs.Sets.{Within}
use Rattle.sets.specs.Pairs.{Sub, Off, meet_of}
use Rattle.masks.specs.declared.Masks.{Masks}
use Rattle.masks.specs.declared.Bounds.{Bounds}
use Rattle.masks.specs.Views.{masks_at, Fires}

-- The rule asks c for a head: it can fire within b, it has a head in the lower end, and what it needs there is in c.
pub record Asks (r : Masks) (b : Bounds) (c : Pair) : Type 0 where
  pub possible : Fires r b.lo b.hi
  pub headed : Off r.head b.lo → ⊥
  pub needed : Sub (meet_of r.need b.lo) c

-- What the rule asks c for it has; the same of the first n rules.
abbrev pub Answers : Masks → Bounds → Pair → Type 0
Answers r b c = Asks r b c → Off r.head c → ⊥

abbrev pub AnswersAll : List ℕ → ℕ → Bounds → Pair → Type 0
AnswersAll ws n b c = (k : ℕ) → k < n → Answers (masks_at ws k) b c

-- A set below: within the lower end of b, with its exceptions, and closed as far as b tells.
pub record Lower (ws : List ℕ) (n : ℕ) (b : Bounds) (c : Pair) : Type 0 where
  pub taken : Within b.lo.taken c.taken
  pub within : Sub c b.lo
  pub closed : AnswersAll ws n b c

-- The lower end of b is the only set below it.
pub record Founded (ws : List ℕ) (n : ℕ) (b : Bounds) : Type 0 where
  pub whole : (c : Pair) → Lower ws n b c → Sub b.lo c
