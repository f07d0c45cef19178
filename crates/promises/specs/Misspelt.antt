-- Reading as it was before request (d) of document 02, in the words that text/specs had then: columns are how their number is written, or
-- misspelt, and every misspelt field is refused by 5. It is here only to say what "all three stand where 5 stood" means. Writing, ranges, what
-- is tested of a line as a whole and what follows from line to line have no part in the request, and are text/specs's own; so are the kinds of
-- line, with the Q lines that came later.
use Rattle.std.specs.Prelude.{ℕ, suc, ◌+◌, Bool, List, [], ◌∷◌, eqb, ltb, ℤ, length, get_or, drop, Result, Ok, Err}
use Rattle.logic.specs.Tests.{either, pick}
use Rattle.book.specs.declared.Content.{Content}
use Rattle.book.specs.Kinds.{kind, fields_of, bytes, none, range_of, longest}
use Rattle.text.specs.declared.State.{State}
use Rattle.text.specs.Fields.{columns, size_of, minus_in, signed, same}
use Rattle.text.specs.Lines.{Numbers, Line, lines, kind_for, test_field, whole_of, judged}
use Rattle.text.specs.Lines.Numbers.{numbers}
use Rattle.text.specs.Lines.Line.{wrong}
use Rattle.text.specs.Reading.{Outcome, start, step, read_end, on_line, last_byte}
use Rattle.text.specs.Reading.Outcome.{accepted, refused}

-- ---- reading with one refusal for all misspelt fields
unfoldable pub columns_before : Bool → ℕ → List ℕ → Result ℤ ℕ
columns_before neg m bs = pick (same (columns neg m) bs) (Ok (signed neg m)) (Err 5)

unfoldable pub spelt_before : ℕ → ℕ → ℕ → ℕ → Result ℤ ℕ
spelt_before a b c d = columns_before (minus_in a b c) (size_of a b c d) (a ∷ b ∷ c ∷ d ∷ [])

unfoldable pub first_before : List ℕ → Result ℤ ℕ
first_before bs = spelt_before (get_or bs 0 0) (get_or bs 1 0) (get_or bs 2 0) (get_or bs 3 0)

unfoldable pub fields_before : List Content → ℕ → List ℕ → Numbers
fields_before [] n bs = numbers []
fields_before (c ∷ cs) n bs = test_field (first_before bs) (range_of c n) (fields_before cs n (drop 4 bs))

unfoldable pub rest_before : State → ℕ → List ℕ → Line
rest_before st k bs = pick (eqb (2 + length bs) (bytes (kind k))) (judged (whole_of st k) k (fields_before (fields_of (kind k)) st.statements bs)) (wrong 4)

unfoldable pub line_before : State → List ℕ → Line
line_before st [] = wrong 3
line_before st (b ∷ bs) = pick (ltb (kind_for st.next b) none) (rest_before st (kind_for st.next b) bs) (wrong 3)

unfoldable pub lines_before : List (List ℕ) → State → ℕ → Outcome
lines_before [] st at = read_end st at
lines_before (l ∷ ls) st at = on_line (line_before st l) at (λ k vs. lines_before ls (step st k vs) (suc at))

unfoldable pub read_before : List ℕ → Outcome
read_before bs = pick (ltb longest (length bs)) (refused 1 0) (pick (eqb (last_byte bs) 10) (lines_before (lines bs) start 1) (refused 2 0))

-- ---- what is read today, told as before
-- 5 for 17 and 18; every other number as it is.
unfoldable pub number_before : ℕ → ℕ
number_before q = pick (either (eqb q 17) (eqb q 18)) 5 q

unfoldable pub told_before : Outcome → Outcome
told_before (accepted s ws) = accepted s ws
told_before (refused q at) = refused (number_before q) at
