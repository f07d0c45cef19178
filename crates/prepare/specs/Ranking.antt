-- What the functions that make the words of the preferences promise.
use Rattle.std.specs.Prelude.{ℕ, suc, ◌<◌, ◌≤◌, ◌≡◌, true, List, ◌↔◌, ◌⊎◌, eqb, length, get_or}
use Rattle.logic.specs.Lists.{Among}
use Rattle.logic.specs.Tests.{both, either}
use Rattle.sets.specs.Sets.{member, bit_of}
use Rattle.meaning.specs.Books.{Book}
use Rattle.bridge.specs.Ranks.{Stepped}

-- The set r is the set s, with y added where x is a.
pub record WithLine (a s x y r : ℕ) : Type 0 where
  pub members : (c : ℕ) → 0 < c → member c r ≡ either (member c s) (both (eqb x a) (eqb y c))

-- The members of s are the exceptions before which the lines put exception a.
pub record LinesFrom (lines : List (ℕ × ℕ)) (a s : ℕ) : Type 0 where
  pub members : (c : ℕ) → 0 < c → (member c s ≡ true) ↔ Among (a, c) lines

-- Each of the first m words is that of the lines from its exception.
pub record LinesTo (lines : List (ℕ × ℕ)) (ranks : List ℕ) (m : ℕ) : Type 0 where
  pub word : (a : ℕ) → a < m → LinesFrom lines (suc a) (get_or ranks a 0)

-- The set r is the set s, with all of p added where place d of s has a member.
pub record Extended (d p s r : ℕ) : Type 0 where
  pub digit : (c : ℕ) → (bit_of r c ≡ 1) ↔ ((bit_of s c ≡ 1) ⊎ ((bit_of s d ≡ 1) × (bit_of p c ≡ 1)))

-- Each of the first m words is extended by the word of exception d + 1, if it has that exception; the others are as they were.
pub record ClosedThrough (d : ℕ) (old new : List ℕ) (m : ℕ) : Type 0 where
  pub same : length new ≡ length old
  pub word : (a : ℕ) → a < m → Extended d (get_or old d 0) (get_or old a 0) (get_or new a 0)
  pub rest : (a : ℕ) → m ≤ a → get_or new a 0 ≡ get_or old a 0

-- If the old words are those of P lines (bridge, Stepped), the new ones are closed under steps through the first m exceptions.
pub record ClosedTo (old new : List ℕ) (m : ℕ) : Type 0 where
  pub same : length new ≡ length old
  pub stepped : (b : Book) → Stepped b old 0 → Stepped b new m
