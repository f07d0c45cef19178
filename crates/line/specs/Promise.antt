-- What Line promises in its two forms.
use Rattle.std.specs.Prelude.{ℕ, List, [], ◌≡◌, length, Result}
use Rattle.sets.specs.declared.Pair.{Pair}
use Rattle.text.specs.declared.Refusal.{Refusal}
use Rattle.answers.specs.Operations.{Told, told, turned, length_of, counted, line_answer, left}

-- Line, with a lent slice l before and k after: the answer is the line's length or the refusal, and the slice has the line in front.
pub record Met (bs : List ℕ) (p : Pair) (l : List ℕ) (r : Result ℕ Refusal) (k : List ℕ) : Type 0 where
  pub answer : length_of r ≡ counted (line_answer bs p (length l))
  pub slice : k ≡ left (λ (x : List ℕ). x) l (line_answer bs p (length l))

-- The part that holds the line: the line itself, "an empty part on refusal".
unfoldable pub part_of : Told (List ℕ) → List ℕ
part_of (told l) = l
part_of (turned q line) = []

-- How long that part is.
unfoldable pub part_length : Told ℕ → ℕ
part_length (told k) = k
part_length (turned q line) = 0
