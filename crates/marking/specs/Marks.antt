-- Marks on the sets of exceptions that no resolution has.
use Rattle.std.specs.Prelude.{◌≡◌, ℕ, ◌+◌, ◌-◌, ◌*◌, ◌/◌, ◌%◌, ◌^◌, ◌<◌, ◌≤◌, ◌⊎◌, List, length, ◌≢◌, slice_index}
use Rattle.sets.specs.declared.Pair.{Pair}
use Rattle.sets.specs.Sets.{bit_of, Within, Apart}
use Rattle.meaning.specs.Books.{Book}
use Rattle.meaning.specs.Resolutions.{Resolution}
use Rattle.marking.specs.declared.Strike.{Strike}

-- Marks are words. The first has exceptions: every set with one of them is marked. The words after it have a bit for each set, 64 in a word.
-- How many sets have a bit.
abbrev pub marks_in : List ℕ → ℕ
marks_in marks = 64 * (length marks - 1)

-- The set t is marked: it has an exception of the first word, or its bit is set.
pub data IsMarked (marks : List ℕ) (t : ℕ) : Type 0 where
  shut_out : (Apart (slice_index marks 0) t → ⊥) → IsMarked marks t
  bit_on : bit_of (slice_index marks (t / 64 + 1)) (t % 64) ≡ 1 → IsMarked marks t

-- The set t lies from lo to hi and is not the one left out.
pub record InRange (s : Strike) (t : ℕ) : Type 0 where
  pub above : Within s.lo t
  pub below : Within t s.hi
  pub other : t ≡ s.but → ⊥

-- A set to mark: it has a member of `any`, or lies in the range.
pub data Struck (s : Strike) (t : ℕ) : Type 0 where
  shares : (Apart s.any t → ⊥) → Struck s t
  between : InRange s t → Struck s t

-- The sets of P that have a bit are marked afterwards. What is marked afterwards was marked before or is of P, and what was marked stays so.
pub record Marked (before : List ℕ) (P : ℕ → Type 0) (after : List ℕ) : Type 0 where
  pub only : (t : ℕ) → IsMarked after t → IsMarked before t ⊎ P t
  pub stays : (t : ℕ) → IsMarked before t → IsMarked after t
  pub same : length after ≡ length before
  pub all : (t : ℕ) → t < marks_in before → P t → IsMarked after t

-- ---- the range, word by word: set t is number t % 64 of word t / 64
-- Each number below 64 has a one in d exactly where its own digit i is 1.
pub record Digit (i d : ℕ) : Type 0 where
  pub is : (k : ℕ) → k < 64 → bit_of d k ≡ bit_of k i

-- The digit i of k lies from that of lo to that of hi.
abbrev pub DigitBetween : ℕ → ℕ → ℕ → ℕ → Type 0
DigitBetween lo hi k i = (bit_of lo i ≤ bit_of k i) × (bit_of k i ≤ bit_of hi i)

-- Of the numbers below 64 that p has, r has those that P holds of.
pub record Selected (p : ℕ) (P : ℕ → Type 0) (r : ℕ) : Type 0 where
  pub from : (k : ℕ) → k < 64 → bit_of r k ≡ 1 → (bit_of p k ≡ 1) × P k
  pub all : (k : ℕ) → k < 64 → bit_of p k ≡ 1 → P k → bit_of r k ≡ 1

-- Of the numbers below 64, r has those whose first m digits lie from those of lo to those of hi.
pub record Pattern (m lo hi r : ℕ) : Type 0 where
  pub from : (k : ℕ) → k < 64 → bit_of r k ≡ 1 → (i : ℕ) → i < m → DigitBetween lo hi k i
  pub all : (k : ℕ) → k < 64 → ((i : ℕ) → i < m → DigitBetween lo hi k i) → bit_of r k ≡ 1

-- The word w has sets of the range from lo to hi, words both.
pub record Spans (lo hi w : ℕ) : Type 0 where
  pub above : Within lo w
  pub below : Within w hi

-- No such word stands from `from` on and before r, where marking goes on, unless r is the end.
pub record Next (lo hi from end r : ℕ) : Type 0 where
  pub least : (v : ℕ) → from ≤ v → v < end → Spans lo hi v → r ≤ v
  pub stands : r < end → Spans lo hi r

-- The word of all ones, which contains every set.
abbrev pub all_ones : ℕ
all_ones = 2 ^ 64 - 1

-- ---- what marks mean
-- Nothing is marked.
pub record Clear (marks : List ℕ) : Type 0 where
  pub none : (t : ℕ) → IsMarked marks t → ⊥

-- No resolution has the set t.
pub record NoneAt (b : Book) (t : ℕ) : Type 0 where
  pub none : (p : Pair) → Resolution b p → p.taken ≢ t

-- The marks are right for the book.
pub record RightMarks (b : Book) (marks : List ℕ) : Type 0 where
  pub right : (t : ℕ) → IsMarked marks t → NoneAt b t

-- An exception at a place of `taken` has the one at place c in its word.
pub record ByMember (ranks : List ℕ) (taken c : ℕ) : Type 0 where
  pub upper : ℕ
  pub ranked : upper < length ranks
  pub taken_has : bit_of taken upper ≡ 1
  pub outranks : bit_of (slice_index ranks upper) c ≡ 1

-- Each member of r is outranked by a member of taken.
pub record Outranked (ranks : List ℕ) (taken r : ℕ) : Type 0 where
  pub by : (c : ℕ) → bit_of r c ≡ 1 → ByMember ranks taken c

-- One exception more: what r has beyond b is of its word, and then the exception is taken.
pub record WithRank (rank a taken b r : ℕ) : Type 0 where
  pub from : (c : ℕ) → bit_of r c ≡ 1 → (bit_of b c ≡ 1) ⊎ ((bit_of taken a ≡ 1) × (bit_of rank c ≡ 1))

-- The sets that a view with the exceptions taken surpasses are marked: all of its proper supersets, and those with a member that it outranks.
pub record Surpassed (ranks : List ℕ) (taken : ℕ) (before after : List ℕ) : Type 0 where
  pub lower : ℕ
  pub outranked : Outranked ranks taken lower
  pub marked : Marked before (Struck (record { lo = taken; hi = all_ones; but = taken; any = lower })) after
