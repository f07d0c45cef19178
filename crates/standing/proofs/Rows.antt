-- The rows of the memory: one is replaced, the others stay as they are.
use mathlib.Core.Path.{◌≡◌}
use mathlib.Core.Bool.{Bool, true}
use mathlib.Core.List.{List}
use mathlib.Core.Logic.{⊎_elim}
use Prim.Native.Nat.{ℕ, ◌<◌}
use lib.ListN.{get_or}
use lib.Seq.{get_or-set_same, get_or-set_other}
use Rattle.logic.specs.Tests.{Decides}
use Rattle.logic.proofs.Decide.{holds-or-not, decides_eq}
use Rattle.sets.specs.Sets.{Contained}
use Rattle.sets.proofs.Words.{contained-within}
use Rattle.standing.specs.declared.memory.Row.{Row}
use Rattle.standing.specs.Standing.{RightFree, Put, Freed, FreeRow}

-- ---- the rows that are written
-- What holds of the new row and of all that were there holds of all that are.
kept : (P : Row → Type 0) (rows rows' : List Row) (row none : Row) → Put rows rows' row → P row → (m : ℕ) → ((k : ℕ) → k < m → P (get_or rows k none)) → (k : ℕ) → k < m → P (get_or rows' k none)
kept P rows rows' row none p r m f k h =
    ⊎_elim (λ (q : k ≡ p.place). rw (p.is, q, get_or-set_same rows p.place row none p.within) r)
    (λ (q : k ≡ p.place → ⊥). rw (p.is, get_or-set_other rows p.place k row none q) (f k h))
    (holds-or-not (decides_eq k p.place))

pub free-put : (bans free free' : List Row) (x y y' : ℕ) (t m : ℕ) → Put free free' (record { taken = t; lines = m })
    → Freed (record { bans = bans; free = free; next_ban = x; next_free = y }) (record { bans = bans; free = free'; next_ban = x; next_free = y' }) t m
free-put bans free free' x y y' t m p = record {
  right = λ ws n ranks root r b. record { bans = r.bans; free = kept (λ w. RightFree ws n ranks root w.taken w.lines) free free' _ _ p b 8 r.free };
}

-- ---- the rows that are read
pub row_has : (row : Row) (taken u : ℕ) (a b : Bool) → Decides a (Contained taken row.taken) → a ≡ true → Decides b (Contained u row.lines) → b ≡ true → FreeRow row taken u
row_has row taken u a b d e f g = record { exceptions = contained-within _ _ (d.yes e); lines = contained-within _ _ (f.yes g) }
