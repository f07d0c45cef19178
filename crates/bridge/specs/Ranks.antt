-- The preferences of a book as words: for each exception the set of those that it outranks.
use Rattle.std.specs.Prelude.{ℕ, suc, ◌<◌, ◌≤◌, ◌≡◌, List, ◌↔◌, length, get_or}
use Rattle.logic.specs.Lists.{Every, Among}
use Rattle.sets.specs.Sets.{bit_of}
use Rattle.meaning.specs.Preferences.{Conditional, Outranks}
use Rattle.meaning.specs.Books.{Book}

-- Number i names one of x exceptions.
pub record Names (x i : ℕ) : Type 0 where
  pub from_one : 0 < i
  pub most : i ≤ x

-- Both numbers of each preference name exceptions of the book: refusals 6 and 10 apply to no P line.
abbrev pub Named : Book → Type 0
Named b = Every (λ (l : ℕ × ℕ). Names (length b.exceptions) l.0 × Names (length b.exceptions) l.1) b.preferences

-- The same of each preference under a condition.
abbrev pub LinesNamed : Book → Type 0
LinesNamed b = Every (λ (q : Conditional). Names (length b.exceptions) q.line.0 × Names (length b.exceptions) q.line.1) b.conditional

-- Word a is the set of the exceptions that exception a + 1 outranks by P lines alone. Each exception has a word, and words past the exceptions are
-- empty.
pub record RanksOf (b : Book) (ranks : List ℕ) : Type 0 where
  pub each : length b.exceptions ≤ length ranks
  pub named : Named b
  pub lines_named : LinesNamed b
  pub outranked : (a c : ℕ) → a < length ranks → (bit_of (get_or ranks a 0) c ≡ 1) ↔ Outranks b.preferences (suc a) (suc c)

-- What a loop over words can promise: a member is reached by P lines, each P line gives a member, and the sets are closed under steps through
-- the first m exceptions.
pub record Stepped (b : Book) (ranks : List ℕ) (m : ℕ) : Type 0 where
  pub each : length b.exceptions ≤ length ranks
  pub chains : (a c : ℕ) → a < length ranks → bit_of (get_or ranks a 0) c ≡ 1 → Outranks b.preferences (suc a) (suc c)
  pub lines : (a c : ℕ) → a < length ranks → Among (suc a, suc c) b.preferences → bit_of (get_or ranks a 0) c ≡ 1
  pub steps : (a d c : ℕ) → a < length ranks → d < m → bit_of (get_or ranks a 0) d ≡ 1 → bit_of (get_or ranks d 0) c ≡ 1 → bit_of (get_or ranks a 0) c ≡ 1
