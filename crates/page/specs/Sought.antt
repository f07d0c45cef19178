-- What a listing is asked for, in a book of so many rules.
use Rattle.std.specs.Prelude.{ℕ}
use Rattle.sets.specs.declared.Pair.{Pair}
use Rattle.page.specs.declared.Task.{Task}

pub record Sought : Type 0 where
  pub rules : ℕ
  pub statements : ℕ
  pub room : ℕ
  pub point : Pair

-- The task in a book of n rules.
abbrev pub sought : ℕ → Task → Sought
sought n q = record { rules = n; statements = q.statements; room = q.room; point = q.point }
