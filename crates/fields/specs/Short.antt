-- Numbers that four columns can hold.
use Rattle.std.specs.Prelude.{ℕ, List, ℤ, pos, get_or}
use Rattle.text.specs.Fields.{Short}

-- Each number of the list is such a number.
unfoldable pub all_short : List ℤ → Type 0
all_short t = (i : ℕ) → Short (get_or t i (pos 0))
