-- A number tested as the number of a field, and what the numbers of a line say beside their ranges.
use Rattle.std.specs.Prelude.{ℕ, not, List, [], ◌∷◌, ℤ, pos, Result, Ok, Err, ⊤}
use Rattle.std.specs.Int.Signed.{le_z}
use Rattle.logic.specs.Tests.{pick, either}
use Rattle.book.specs.declared.Content.{Content}
use Rattle.book.specs.declared.Content.TheVariants.{Edition, Statements, Literal, Exception, Total}
use Rattle.book.specs.declared.Fault.{Fault}
use Rattle.book.specs.Faults.{number}
use Rattle.book.specs.Kinds.{Range}
use Rattle.text.specs.Lines.{inside, between}
use Rattle.text.specs.Reading.{to_nat}
use Rattle.fields.specs.declared.Seen.{Seen}

abbrev pub range : ℤ → ℤ → Fault → Range
range a b q = record { low = a; high = b; fault = q }

-- Ok from the low end to the high one, else what is wrong.
unfoldable pub ranged : {E : Type 0} → ℤ → ℤ → E → ℤ → Result ⊤ E
ranged a b q v = pick (between a b v) (Ok tt) (Err q)

-- Ok in the range, else refused by the range's number.
unfoldable pub number_is : Range → ℤ → Result ⊤ ℕ
number_is r v = pick (inside r v) (Ok tt) (Err (number r.fault))

-- What is known after one number more, in a field of this content, with so many exceptions and rows.
unfoldable pub see_of : Seen → Content → ℕ → ℕ → ℤ → Seen
see_of s Statements m n v = record { statements = to_nat v; missing = s.missing; miscounted = s.miscounted }
see_of s Exception m n v = record { statements = s.statements; missing = either s.missing (not (le_z v (pos m))); miscounted = s.miscounted }
see_of s Total m n v = record { statements = s.statements; missing = s.missing; miscounted = either s.miscounted (not (between (pos n) (pos n) v)) }
see_of s Edition m n v = s
see_of s Literal m n v = s

-- What is known after all the numbers of a line with fields of these contents.
unfoldable pub see_all : Seen → List Content → ℕ → ℕ → List ℤ → Seen
see_all s [] m n vs = s
see_all s (c ∷ cs) m n [] = s
see_all s (c ∷ cs) m n (v ∷ vs) = see_all (see_of s c m n v) cs m n vs
