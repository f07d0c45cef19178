-- The refusal of a pair by the sizes of the book alone.
use Rattle.std.specs.Prelude.{ℕ, ◌≡◌, length}
use Rattle.lawful.specs.declared.Unlawful.{Unlawful}
use Rattle.lawful.specs.declared.Unlawful.TheVariants.{PastExceptions, PastStatements, Shared}
use Rattle.sets.specs.declared.Pair.{Pair}
use Rattle.meaning.specs.Books.{Book}
use Rattle.meaning.specs.Twins.Verdicts.{pair_refusal}

-- The number is the refusal of the pair in every book of so many statements and exceptions; 0 where it is lawful.
pub record Refuses (statements exceptions : ℕ) (p : Pair) (r : ℕ) : Type 0 where
  pub refusal : (b : Book) → b.statements ≡ statements → length b.exceptions ≡ exceptions → r ≡ pair_refusal b p

-- The number of each.
abbrev pub number : Unlawful → ℕ
number PastExceptions = 12
number PastStatements = 13
number Shared = 14
