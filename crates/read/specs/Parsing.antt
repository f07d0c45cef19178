-- What `parse` and `read` promise.
use Rattle.std.specs.Prelude.{List, ◌≡◌, ℕ, ℤ, take, Result, Ok}
use Rattle.book.specs.declared.Shape.{Shape}
use Rattle.text.specs.declared.Refusal.{Refusal}
use Rattle.text.specs.Reading.{read_text, read_with, read_answer, read_into}
use Rattle.book.specs.Counts.{row_numbers}
use Rattle.text.specs.Accepted.{Accepted as Facts}
use Rattle.read.specs.Storing.{outcome_of}

-- The answer and the rows in front of the slice are what reading the text gives, and an accepted book's facts hold of them.
pub record Parsing (bs : List ℕ) (r : Result Shape Refusal) (l : List ℤ) : Type 0 where
  pub is : outcome_of r l ≡ read_text bs
  pub facts : (s : Shape) → r ≡ Ok s → Facts s (take (row_numbers s) l)

-- Read, with a lent slice l before and k after: the answer and the slice are those of the definition.
pub record Met (bs : List ℕ) (l : List ℤ) (r : Result Shape Refusal) (k : List ℤ) : Type 0 where
  pub answer : r ≡ read_answer (read_with l bs)
  pub slice : k ≡ read_into l (read_with l bs)
