-- A book as it is prepared for the search, and what is answered of it.
use Rattle.std.specs.Prelude.{ℕ, ◌/◌, ◌≡◌, Bool, true, false, List, ℤ, length}
use Rattle.sets.specs.declared.Pair.{Pair}
use Rattle.sets.specs.Pairs.{flat}
use Rattle.book.specs.declared.Shape.{Shape}
use Rattle.book.specs.Counts.{InLimits}
use Rattle.text.specs.Reading.{over}
use Rattle.meaning.specs.Books.{Lawful}
use Rattle.meaning.specs.Meant.{book_of}
use Rattle.meaning.specs.Order.{Point, start, at, LawfulPoint}
use Rattle.meaning.specs.Twins.Verdicts.{verdict}
use Rattle.meaning.specs.Twins.Next.{page_from}
use Rattle.masks.specs.declared.Bounds.{Bounds}
use Rattle.resolution.specs.Rooted.{Rooted}
use Rattle.bridge.specs.Packed.{Packs}
use Rattle.bridge.specs.Ranks.{RanksOf}
use Rattle.bridge.specs.Rows.{rule_count}

-- The words and the ranks are those of the book of this shape with these rows, which is in the limits.
pub record Loaded (s : Shape) (rows : List ℤ) (ws ranks : List ℕ) : Type 0 where
  pub packs : Packs (book_of s rows) ws (rule_count s)
  pub ranked : RanksOf (book_of s rows) ranks
  pub limits : InLimits s

-- The verdict on a lawful pair.
pub record VerdictIs (s : Shape) (ws ranks : List ℕ) (p : Pair) (r : ℕ) : Type 0 where
  pub is : (rows : List ℤ) → Loaded s rows ws ranks → Lawful (book_of s rows) p → r ≡ verdict (book_of s rows) p

-- The page of the first resolutions later than a point: how many, and the lent slice with them in front and the rest as it was.
pub record PageIs (s : Shape) (ws ranks : List ℕ) (from : Point) (o o' : List ℕ) (r : ℕ) : Type 0 where
  pub count : (rows : List ℤ) → Loaded s rows ws ranks → LawfulPoint (book_of s rows) from → r ≡ length (page_from (book_of s rows) (length o / 3) from)
  pub filled : (rows : List ℤ) → Loaded s rows ws ranks → LawfulPoint (book_of s rows) from → o' ≡ over o (flat (page_from (book_of s rows) (length o / 3) from))

-- Where a page begins: before the first pair, or after the point.
abbrev pub since : Bool → Pair → Point
since false p = start
since true p = at p

-- The bounds have the book's views.
pub record RootIs (s : Shape) (ws ranks : List ℕ) (root : Bounds) : Type 0 where
  pub rooted : (rows : List ℤ) → Loaded s rows ws ranks → Rooted (book_of s rows) ws (rule_count s) ranks root
