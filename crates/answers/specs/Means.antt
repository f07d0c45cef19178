-- What the operations answer, by the definitions alone (document 01, 'Six operations' and 'Turned down, by place'). The functions of
-- Operations.antt and Ways.antt compute the same: proofs/Means.antt.
use Rattle.std.specs.Prelude.{ℕ, ◌<◌, ◌≤◌, ◌≡◌, List, ℤ, length, take}
use Rattle.sets.specs.declared.Pair.{Pair}
use Rattle.book.specs.declared.Shape.{Shape}
use Rattle.text.specs.Reading.{read_text}
use Rattle.text.specs.Reading.Outcome.{accepted, refused as unread}
use Rattle.meaning.specs.Books.{Book, PairRefused}
use Rattle.meaning.specs.Meant.{book_of}
use Rattle.meaning.specs.Resolutions.{Verdict}
use Rattle.meaning.specs.Order.{Point, start, at, LawfulPoint, AllLater}
use Rattle.answers.specs.Operations.{Told, told, turned, fields_in, line_in}
use Rattle.answers.specs.Ways.{most_lines, printed}

-- The answer x of an operation on a text from a point (the pair of Judge and of Line is the point): the text's refusal with its line; then the
-- pair's, tied to no line; else the text is accepted, the point is lawful, and x is right of the book and the point.
pub data Means {A : Type 0} (down : ℕ → ℕ → A) (right : Book → Point → A → Type 0) (bs : List ℕ) : Point → A → Type 0 where
  text_refused : (from : Point) (q line : ℕ) → read_text bs ≡ unread q line → Means down right bs from (down q line)
  pair_refused : (s : Shape) (ws : List ℤ) (p : Pair) (k : ℕ) → read_text bs ≡ accepted s ws → PairRefused (book_of s ws) p k → Means down right bs (at p) (down k 0)
  not_refused : (s : Shape) (ws : List ℤ) (from : Point) (x : A) → read_text bs ≡ accepted s ws → LawfulPoint (book_of s ws) from → right (book_of s ws) from x
      → Means down right bs from x

-- What is right of First and After is `FirstLater`. Of Judge: the verdict on the pair.
abbrev pub Judges : Book → Point → Told ℕ → Type 0
Judges b start x = ⊥
Judges b (at p) (told k) = Verdict b p k
Judges b (at p) (turned q line) = ⊥

-- Of a page with room for k pairs: the first k of all resolutions later than the point.
abbrev pub Pages : ℕ → Book → Point → Told (List Pair) → Type 0
Pages k b from (told xs) = (all : List Pair) × AllLater b from all × (xs ≡ take k all)
Pages k b from (turned q line) = ⊥

-- Of Line into a lent buffer of m bytes: the pair's line, or 15 where the buffer is shorter.
abbrev pub Lines : ℕ → Book → Point → Told (List ℕ) → Type 0
Lines m b start x = ⊥
Lines m b (at p) (told l) = (l ≡ line_in b p) × (length l ≤ m)
Lines m b (at p) (turned q line) = (q ≡ 15) × (line ≡ 0) × (m < length (line_in b p))

-- Of what `ways` prints: all resolutions by Line, no more than 9,999, then E, or M if more remain, and how many lines were printed.
abbrev pub WaysPrints : Book → Point → List ℕ → Type 0
WaysPrints b from x = (all : List Pair) × AllLater b from all × (x ≡ printed 0 most_lines (fields_in b) b.statements all)
