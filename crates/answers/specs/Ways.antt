-- What the program `ways` prints for a text on its standard input (document 01, 'Six operations', its last paragraph; the closing line by
-- document 02, (a)).
use Rattle.std.specs.Prelude.{ℕ, suc, ◌+◌, ◌-◌, ◌*◌, false, List, [], ◌∷◌, ◌++◌, ◌⊎◌, ◌≡◌, ltb, pos, length, take, get_or}
use Rattle.logic.specs.Lists.{Every}
use Rattle.logic.specs.Tests.{pick, concat_map}
use Rattle.sets.specs.declared.Pair.{Pair}
use Rattle.text.specs.Fields.{in_columns, digit_of, written_all}
use Rattle.text.specs.Lines.{lines, unlines}
use Rattle.text.specs.Reading.{read_text}
use Rattle.text.specs.ALines.{a_line}
use Rattle.meaning.specs.Books.{Book}
use Rattle.meaning.specs.Order.{Point, start}
use Rattle.meaning.specs.Twins.Next.{page_from}
use Rattle.answers.specs.Operations.{on_text, fields_in}

-- "After 9,999 lines, if more remain".
abbrev pub most_lines : ℕ
most_lines = 9999

-- The lines of some pairs, by Line, in a book of n statements whose lines have w fields for exceptions.
unfoldable pub lines_of : ℕ → ℕ → List Pair → List ℕ
lines_of w n ps = concat_map (λ p. a_line w n p) ps

-- "One field of 8 columns, right-justified."
abbrev pub count_columns : ℕ
count_columns = 8

-- A closing line: its letter, the count, a line feed.
unfoldable pub closing_line : ℕ → ℕ → List ℕ
closing_line letter k = letter ∷ (in_columns count_columns false k ++ (10 ∷ []))

-- `E`; `M` instead if there are more than the m that may be printed; and "the number of A lines printed above", done of them before these.
unfoldable pub closing : ℕ → ℕ → List Pair → List ℕ
closing done m ps = closing_line (pick (ltb m (length ps)) 77 69) (done + length (take m ps))

-- Where done lines were printed before: resolutions by Line, no more than m, then the closing line. The pairs given are all there are, or the
-- first m + 1 of them.
unfoldable pub printed : ℕ → ℕ → ℕ → ℕ → List Pair → List ℕ
printed done m w n ps = lines_of w n (take m ps) ++ closing done m ps

-- What is printed of a book from a point on, where m lines are left to be printed; the others were printed before.
unfoldable pub listed : Book → ℕ → Point → List ℕ
listed b m from = printed (most_lines - m) m (fields_in b) b.statements (page_from b (suc m) from)

-- "A refusal prints only `F`, two fields (number, line) and a line feed."
unfoldable pub failed : ℕ → ℕ → List ℕ
failed number line = 70 ∷ (written_all (pos number ∷ pos line ∷ []) ++ (10 ∷ []))

-- All that is printed.
unfoldable pub ways_of : List ℕ → List ℕ
ways_of bs = on_text failed (λ b. listed b most_lines start) (read_text bs)

-- ---- what the number of a closing line is
-- The number that columns say, read from the left; a byte that is no digit counts as 0.
unfoldable pub number_from : ℕ → List ℕ → ℕ
number_from k [] = k
number_from k (b ∷ bs) = number_from (k * 10 + digit_of b) bs

-- Bytes that close with their count: cut into lines as texts are, they are lines that begin with A, no others, and a last one of E or M and 8
-- columns. The columns are the number of lines above, right-justified, and so read as it.
pub record Counted (x : List ℕ) : Type 0 where
  pub above : List (List ℕ)
  pub letter : ℕ
  pub field : List ℕ
  pub whole : x ≡ unlines (above ++ ((letter ∷ field) ∷ []))
  pub cut : lines x ≡ above ++ ((letter ∷ field) ∷ [])
  pub only : Every (λ l. get_or l 0 0 ≡ 65) above
  pub closes : (letter ≡ 69) ⊎ (letter ≡ 77)
  pub right : field ≡ in_columns count_columns false (length above)
  pub number : number_from 0 field ≡ length above
