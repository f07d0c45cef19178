-- What `write` promises.
use Rattle.std.specs.Prelude.{ℕ, List, ◌≡◌, ℤ, Result}
use Rattle.text.specs.declared.Refusal.{Refusal}
use Rattle.text.specs.Writing.{write_with, write_answer, write_into}

-- Write, with a lent slice l before and k after: the answer and the slice are those of the definition.
pub record Met (t : List ℤ) (l : List ℕ) (r : Result ℕ Refusal) (k : List ℕ) : Type 0 where
  pub answer : r ≡ write_answer (write_with l t)
  pub slice : k ≡ write_into l (write_with l t)
