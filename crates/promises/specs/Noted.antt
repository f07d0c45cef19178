-- What was noted before request (c) of document 02, and the books of that time: the order of pairs as document 01 lays it down, by a table of the
-- sets of taken exceptions, document 01's resolutions, and its limits. A text was accepted before if document 01 accepts it. That such a text is accepted now, with
-- the same book, rests on the limits having only grown (each range and limit of document 01 lies within that of document 02); it is not stated as a
-- theorem here. What is proved is that a text accepted now with at most 12 X lines and no Q or O line, which document 01 does not have, keeps every limit
-- of document 01.
use Rattle.std.specs.Prelude.{ℕ, ◌^◌, ◌<◌, ◌≤◌, ◌≡◌, List, [], ◌∷◌, ◌++◌, ℤ, length}
use Rattle.logic.specs.Lists.{Every, Among}
use Rattle.sets.specs.declared.Pair.{Pair}
use Rattle.sets.specs.Sets.{ProperSubset}
use Rattle.book.specs.declared.Shape.{Shape}
use Rattle.book.specs.Counts.{total as rows_in}
use Rattle.meaning.specs.Literals.{Conclusions, Consistent}
use Rattle.meaning.specs.Rules.{Rule}
use Rattle.meaning.specs.AnswerSets.{reduct, Least, Breaks}
use Rattle.meaning.specs.Books.{Book, Lawful, conclusions, applied}
use Rattle.meaning.specs.Meant.{book_of}
use Rattle.meaning.specs.Order.{value, Point, start, at}
use Rattle.meaning.specs.Views.{Ranked, Bodies}
use Rattle.meaning.specs.Resolutions.{Resolution}
use Rattle.bridge.specs.Ranks.{Names}

-- ---- by a table f of the sets of w exceptions, which has 2^w places
-- The pair p comes before q: its set stands at an earlier place; or both have the same set, and at the lowest-numbered statement that differs
-- absent comes before held before denied.
pub data BeforeBy (w : ℕ) (f : ℕ → ℕ) (p q : Pair) : Type 0 where
  earlier : (j k : ℕ) → j < k → k < 2 ^ w → f j ≡ p.taken → f k ≡ q.taken → BeforeBy w f p q
  differs : p.taken ≡ q.taken → (i : ℕ) → 0 < i → ((j : ℕ) → 0 < j → j < i → value p j ≡ value q j) → value p i < value q i → BeforeBy w f p q

-- The pair is later than the point.
abbrev pub LaterBy : ℕ → (ℕ → ℕ) → Point → Pair → Type 0
LaterBy w f start q = Unit {0}
LaterBy w f (at p) q = BeforeBy w f p q

-- Each member of the list comes before all that follow it.
abbrev pub AscendingBy : ℕ → (ℕ → ℕ) → List Pair → Type 0
AscendingBy w f [] = Unit {0}
AscendingBy w f (p ∷ ps) = Every (BeforeBy w f p) ps × AscendingBy w f ps

-- The list of all resolutions later than the point, in this order, each once.
pub record AllLaterBy (w : ℕ) (f : ℕ → ℕ) (b : Book) (from : Point) (ps : List Pair) : Type 0 where
  pub only : Every (λ p. Resolution b p × LaterBy w f from p) ps
  pub all : (p : Pair) → Resolution b p → LaterBy w f from p → Among p ps
  pub ascending : AscendingBy w f ps

-- ---- resolutions of document 01
-- An answer set as document 01 has it, before request (g) of document 02: S has no statement both held and denied, is the least set closed under the
-- rules that the reduct by S leaves, and satisfies no constraint's body.
pub record AnswerSetBefore (rs : List Rule) (s : Conclusions) : Type 0 where
  pub consistent : Consistent s
  pub least : Least (reduct s rs) s
  pub unbroken : Every (λ r. Breaks s r.body r.heads → ⊥) rs

-- A view and a resolution as document 01 has them, before request (e): P lines alone rank, whatever S is, and no view at all has a proper subset of a
-- resolution's T.
pub record ViewBefore (b : Book) (p : Pair) : Type 0 where
  pub lawful : Lawful b p
  pub answers : AnswerSetBefore (b.plain ++ applied b p) (conclusions p)
  pub unranked : Ranked b.preferences p.taken p.taken → ⊥
  pub bodies : Bodies b p

pub record ResolutionBefore (b : Book) (p : Pair) : Type 0 where
  pub view : ViewBefore b p
  pub undominated : (q : Pair) → ViewBefore b q → Ranked b.preferences q.taken p.taken → ⊥
  pub minimal : (q : Pair) → ViewBefore b q → ProperSubset q.taken p.taken → ⊥

-- The list of all of document 01's resolutions later than the point, in the order by the table, each once.
pub record AllBefore (w : ℕ) (f : ℕ → ℕ) (b : Book) (from : Point) (ps : List Pair) : Type 0 where
  pub only : Every (λ p. ResolutionBefore b p × LaterBy w f from p) ps
  pub all : (p : Pair) → ResolutionBefore b p → LaterBy w f from p → Among p ps
  pub ascending : AscendingBy w f ps

-- ---- the limits of document 01
-- The most X lines before request (c).
abbrev pub exceptions_before : ℕ
exceptions_before = 12

-- A text and its book keep the limits of document 01: the bytes of the text; n; how many R, X and P lines there are, and all of them together, as Z
-- says; that there is no other row, no Q or O line; and the exceptions that the P lines name.
pub record KeepsLimits (bs : List ℕ) (s : Shape) (ws : List ℤ) : Type 0 where
  pub text : length bs ≤ 8392
  pub statements : (0 < s.statements) × (s.statements ≤ 48)
  pub plain : s.plain ≤ 200
  pub exceptions : s.exceptions ≤ exceptions_before
  pub preferences : s.preferences ≤ 32
  pub conditionals : s.conditionals ≡ 0
  pub alternatives : s.alternatives ≡ 0
  pub total : rows_in s ≤ 244
  pub named : Every (λ (l : ℕ × ℕ). Names exceptions_before l.0 × Names exceptions_before l.1) (book_of s ws).preferences
