-- What reading a text and preparing its book gives, and a page of one pair as an answer.
use Rattle.std.specs.Prelude.{ℕ, zero, suc, ◌≡◌, ◌≢◌, List, ℤ, get_or, Option, Some, None, Result, Ok, Err}
use Rattle.sets.specs.declared.Pair.{Pair}
use Rattle.book.specs.declared.Shape.{Shape}
use Rattle.text.specs.declared.Refusal.{Refusal}
use Rattle.text.specs.Reading.{read_text}
use Rattle.text.specs.Reading.Outcome.{accepted, refused}
use Rattle.meaning.specs.Books.{Lawful}
use Rattle.meaning.specs.Meant.{book_of}
use Rattle.meaning.specs.Twins.Verdicts.{pair_refusal}
use Rattle.bridge.specs.Packed.{Packs}
use Rattle.bridge.specs.Ranks.{RanksOf}
use Rattle.bridge.specs.Rows.{rule_count}
use Rattle.engine.specs.Loaded.{Loaded}

-- The text's refusal, or its book, prepared.
abbrev pub Loads : List ℕ → Result Shape Refusal → List ℕ → List ℕ → Type 0
Loads bs (Err q) ws ranks = read_text bs ≡ refused q.number q.line
Loads bs (Ok s) ws ranks = (rows : List ℤ) × (read_text bs ≡ accepted s rows) × Loaded s rows ws ranks

-- The refusal of a text, or of a pair in its book, which is tied to no line.
pub data RefusedFor (bs : List ℕ) (p : Pair) (q : Refusal) : Type 0 where
  by_text : read_text bs ≡ refused q.number q.line → RefusedFor bs p q
  by_pair : (s : Shape) (rows : List ℤ) → read_text bs ≡ accepted s rows → q.number ≡ pair_refusal (book_of s rows) p → q.number ≢ 0 → q.line ≡ 0 → RefusedFor bs p q

-- Such a refusal, or the book, prepared, in which the pair is lawful.
abbrev pub LoadsFor : List ℕ → Pair → Result Shape Refusal → List ℕ → List ℕ → Type 0
LoadsFor bs p (Err q) ws ranks = RefusedFor bs p q
LoadsFor bs p (Ok s) ws ranks = (rows : List ℤ) × (read_text bs ≡ accepted s rows) × Loaded s rows ws ranks × Lawful (book_of s rows) p

-- The words and the ranks are those of the book with these rows.
pub record Filled (s : Shape) (rows : List ℤ) (ws ranks : List ℕ) : Type 0 where
  pub packs : Packs (book_of s rows) ws (rule_count s)
  pub ranked : RanksOf (book_of s rows) ranks

-- None where the page has no pair, else its first pair.
unfoldable pub found_in : ℕ → List ℕ → Option Pair
found_in zero o = None
found_in (suc k) o = Some (record { taken = get_or o 0 0; held = get_or o 1 0; denied = get_or o 2 0 })
