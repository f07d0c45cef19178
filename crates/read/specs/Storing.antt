-- What the functions of the reader answer and leave in a slice of numbers, by the definitions of crate text.
use Rattle.std.specs.Prelude.{ℕ, suc, Bool, false, List, [], ◌∷◌, eqb, leb, ℤ, get_or, take, drop, set, Result, Ok, Err, ⊤}
use Rattle.std.proofs.lemmas.List.Edits.{sets}
use Rattle.logic.specs.Tests.{pick}
use Rattle.book.specs.declared.Kind.{Kind}
use Rattle.book.specs.declared.Content.{Content}
use Rattle.book.specs.Faults.{number}
use Rattle.book.specs.Kinds.{kind, none, Range}
use Rattle.text.specs.declared.State.{State}
use Rattle.text.specs.declared.Refusal.{Refusal}
use Rattle.text.specs.Lines.{Numbers, Line, inside, lines, read_fields}
use Rattle.text.specs.Lines.Numbers.{numbers, fault}
use Rattle.text.specs.Lines.Line.{line, wrong}
use Rattle.text.specs.Reading.{Outcome, Front, after, step, shape_of, refusal}
use Rattle.text.specs.Reading.Outcome.{accepted, refused}
use Rattle.text.specs.Reading.Front.{found, stopped}
use Rattle.book.specs.declared.Shape.{Shape}
use Rattle.book.specs.Counts.{row_numbers}
use Rattle.fields.specs.declared.Seen.{Seen}
use Rattle.fields.specs.Checks.{see_all}
use Rattle.cursor.specs.declared.Cursor.{Cursor}

-- ---- a field
-- A field's number if it is spelt right and in the range, else the refusal.
unfoldable pub number_of : Result ℤ ℕ → Range → Result ℤ ℕ
number_of (Err q) r = Err q
number_of (Ok v) r = pick (inside r v) (Ok v) (Err (number r.fault))

-- ---- the fields of a line
-- Before the fields of a line nothing is seen, and n is as before.
unfoldable pub none_seen : ℕ → Seen
none_seen n = record { statements = n; missing = false; miscounted = false }

-- The numbers in the slice with what they say; or the refusal, and nothing is said of the slice.
pub data Left : Type 0 where
  kept : List ℤ → Seen → Left
  lost : ℕ → Left

-- Numbers in fields of these contents stored from a place on, with m exceptions and so many rows so far.
unfoldable pub store : ℕ → ℕ → List Content → Seen → List ℤ → ℕ → Numbers → Left
store m rows cs s l to (numbers vs) = kept (sets l to vs) (see_all s cs m rows vs)
store m rows cs s l to (fault q) = lost q

-- The fields at the front of the bytes, read in a book of n statements and stored.
unfoldable pub store_fields : ℕ → ℕ → ℕ → List Content → List ℤ → ℕ → List ℕ → Left
store_fields n m rows cs l to bs = store m rows cs (none_seen n) l to (read_fields cs n bs)

unfoldable pub answer_fields : Result Seen ℕ → List ℤ → Left
answer_fields (Ok s) l = kept l s
answer_fields (Err q) l = lost q

-- ---- a line
-- The refusal of a line as a whole, if there is one, by the lines of its kind so far, whether it lacks a head, and what its numbers say.
unfoldable pub whole_is : Kind → ℕ → Bool → Seen → Result ⊤ ℕ
whole_is x count lacking s = pick (leb x.limit count) (Err (number x.over)) (pick lacking (Err (number x.unfilled)) (pick s.missing (Err 10) (pick s.miscounted (Err 11) (Ok tt))))

-- Its kind, n after it and the numbers in the slice; or the refusal.
pub data LineLeft : Type 0 where
  kept_line : ℕ → ℕ → List ℤ → LineLeft
  lost_line : ℕ → LineLeft

unfoldable pub store_line : State → List ℤ → ℕ → Line → LineLeft
store_line st l to (line k vs) = kept_line k (step st k vs).statements (sets l to vs)
store_line st l to (wrong q) = lost_line q

unfoldable pub answer_line : Result (ℕ × ℕ) ℕ → List ℤ → LineLeft
answer_line (Ok p) l = kept_line p.0 p.1 l
answer_line (Err q) l = lost_line q

-- ---- the lines
-- The state after a line of the kind at place k, n being known.
unfoldable pub step_with : State → ℕ → ℕ → State
step_with st k n = record { next = after k; statements = n; counts = set st.counts k (suc (get_or st.counts k 0)); rows = pick (kind k).row (suc st.rows) st.rows }

-- How far it is to the next line feed.
unfoldable pub until_feed : List ℕ → ℕ
until_feed [] = 0
until_feed (b ∷ bs) = pick (eqb b 10) 0 (suc (until_feed bs))

-- The answer where no line is left, or Z has come.
unfoldable pub end_of : State → Cursor → Result (Shape × Cursor) Refusal
end_of st c = pick (eqb st.next none) (Ok (shape_of st, c)) (Err (refusal 3 c.line))

-- What was found in front of a text, the rows being in front of the slice.
unfoldable pub front_is : List ℕ → Result (Shape × Cursor) Refusal → List ℤ → Front
front_is text (Ok p) l = found p.0 (take (row_numbers p.0) l) (lines (drop p.1.at text)) p.1.line
front_is text (Err r) l = stopped r.number r.line

-- An answer as an outcome, the rows being in front of the slice.
unfoldable pub outcome_of : Result Shape Refusal → List ℤ → Outcome
outcome_of (Ok s) l = accepted s (take (row_numbers s) l)
outcome_of (Err r) l = refused r.number r.line
