-- What `ways` prints, part by part: the first from the text, each other from the prepared book, the point and the lines that are left.
use Rattle.std.specs.Prelude.{ℕ, ◌+◌, ◌-◌, ◌*◌, ◌<◌, ◌≤◌, ◌≡◌, List, ◌++◌, ℤ, length, take, drop, Some, None}
use Rattle.sets.specs.declared.Pair.{Pair}
use Rattle.book.specs.declared.Shape.{Shape}
use Rattle.book.specs.Limits as limit
use Rattle.meaning.specs.Books.{Lawful}
use Rattle.meaning.specs.Meant.{book_of}
use Rattle.meaning.specs.Order.{Point, at, LawfulPoint}
use Rattle.answers.specs.Ways.{lines_of, count_columns, closing_line, listed, most_lines, ways_of}
use Rattle.line.specs.Parts.{line_bytes}
use Rattle.page.specs.Pages.{pair_at, pairs_in}
use Rattle.engine.specs.Loaded.{Loaded}
use Rattle.listing.specs.declared.Part.{Part}
use Rattle.listing.specs.declared.Begun.{Begun}

-- The most lines that a part has. Nothing else in the definitions or proofs of this crate repeats this number.
abbrev pub part_lines : ℕ
part_lines = 1024

-- The bytes of the longest line, of the closing line, and those that a part may need: so many of the longest lines, and the closing line.
abbrev pub longest_line : ℕ
longest_line = line_bytes limit.exceptions limit.statements

abbrev pub closing_bytes : ℕ
closing_bytes = 1 + count_columns + 1

abbrev pub part_bytes : ℕ
part_bytes = part_lines * longest_line + closing_bytes

-- ---- a page in lines
-- The lines of the first k pairs and a closing line with this letter, done lines having been printed before.
pub record Closes (w n : ℕ) (ns : List ℕ) (k letter done : ℕ) (o' : List ℕ) (r : Part) : Type 0 where
  pub fits : r.bytes ≤ length o'
  pub small : r.bytes ≤ part_bytes
  pub ends : r.next ≡ None
  pub is : take r.bytes o' ≡ lines_of w n (pairs_in ns 0 k) ++ closing_line letter (done + k)

-- The lines of all k pairs, and the last of them, from which the listing goes on.
pub record Fills (w n : ℕ) (ns : List ℕ) (k : ℕ) (o' : List ℕ) (r : Part) : Type 0 where
  pub fits : r.bytes ≤ length o'
  pub small : r.bytes ≤ part_bytes
  pub goes_on : r.next ≡ Some (pair_at ns (part_lines - 1))
  pub is : take r.bytes o' ≡ lines_of w n (pairs_in ns 0 k)

-- A page of k pairs where m lines are left: `M` where it is more than may be printed, `E` where it is all there is, else the listing goes on.
pub record Prints (w n : ℕ) (ns : List ℕ) (k m : ℕ) (o' : List ℕ) (r : Part) : Type 0 where
  pub cut : m < k → Closes w n ns m 77 (most_lines - m) o' r
  pub ended : k ≤ m → k < part_lines → Closes w n ns k 69 (most_lines - m) o' r
  pub filled : k ≤ m → k ≡ part_lines → Fills w n ns k o' r

-- ---- of a book
-- The words and ranks are those of some book of this shape; and a pair is lawful in it.
pub record Prepared (s : Shape) (ws ranks : List ℕ) : Type 0 where
  pub rows : List ℤ
  pub loaded : Loaded s rows ws ranks

pub record Ready (s : Shape) (ws ranks : List ℕ) (p : Pair) : Type 0 where
  pub rows : List ℤ
  pub loaded : Loaded s rows ws ranks
  pub lawful : Lawful (book_of s rows) p

-- The part from a point on, where m lines are left: all that is listed; or its front, and the rest is what is listed from the last pair on.
pub record Lists (s : Shape) (ws ranks : List ℕ) (from : Point) (m : ℕ) (o' : List ℕ) (r : Part) : Type 0 where
  pub fits : r.bytes ≤ length o'
  pub small : r.bytes ≤ part_bytes
  pub fewer : (p : Pair) → r.next ≡ Some p → part_lines ≤ m
  pub whole : (rows : List ℤ) → Loaded s rows ws ranks → LawfulPoint (book_of s rows) from → r.next ≡ None → take r.bytes o' ≡ listed (book_of s rows) m from
  pub lawful : (rows : List ℤ) → Loaded s rows ws ranks → LawfulPoint (book_of s rows) from → (p : Pair) → r.next ≡ Some p → Lawful (book_of s rows) p
  pub front : (rows : List ℤ) → Loaded s rows ws ranks → LawfulPoint (book_of s rows) from → (p : Pair) → r.next ≡ Some p → take r.bytes o' ++ listed (book_of s rows) (m - part_lines) (at p) ≡ listed (book_of s rows) m from

-- ---- of a text
-- What was printed, with what is listed from the pair on, m lines being left, is all that `ways` prints.
pub record GoesOn (bs : List ℕ) (ws ranks done : List ℕ) (s : Shape) (p : Pair) (m : ℕ) : Type 0 where
  pub ready : Ready s ws ranks p
  pub rest : done ++ listed (book_of s ready.rows) m (at p) ≡ ways_of bs

-- The first part of a text.
pub record Begins (bs ws ranks o' : List ℕ) (r : Begun) : Type 0 where
  pub fits : r.bytes ≤ length o'
  pub small : r.bytes ≤ part_bytes
  pub whole : r.next ≡ None → take r.bytes o' ≡ ways_of bs
  pub more : (s : Shape) (p : Pair) → r.next ≡ Some (s, p) → GoesOn bs ws ranks (take r.bytes o') s p (most_lines - part_lines)

-- ---- byte by byte
-- The bytes are the first of those that `ways` prints for the text from place i on.
abbrev pub Next : List ℕ → ℕ → List ℕ → Type 0
Next bs i xs = xs ≡ take (length xs) (drop i (ways_of bs))

-- After the first i bytes of all that `ways` prints for the text come those that are listed from the pair on, m lines being left. The last two
-- only say that the place is a number of the machine.
pub record Midway (bs ws ranks : List ℕ) (i : ℕ) (s : Shape) (p : Pair) (m : ℕ) : Type 0 where
  pub done : List ℕ
  pub long : length done ≡ i
  pub goes_on : GoesOn bs ws ranks done s p m
  pub few : m ≤ most_lines
  pub short : i ≤ (most_lines - m) * part_bytes
