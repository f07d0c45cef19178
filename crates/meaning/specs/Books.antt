-- Books and pairs (document 01, 'A book and its lines', 'The order of pairs').
use Rattle.std.specs.Prelude.{ℕ, suc, ◌^◌, ◌<◌, List, [], ◌∷◌, length}
use Rattle.logic.specs.Tests.{cons_if}
use Rattle.sets.specs.Sets.{member}
use Rattle.sets.specs.declared.Pair.{Pair}
use Rattle.meaning.specs.Literals.{Conclusions, Consistent}
use Rattle.meaning.specs.Rules.{Rule}
use Rattle.meaning.specs.Preferences.{Conditional}

-- A book: the number n of statements, the plain rules (R lines, then O lines), the exceptions (X lines), the preferences (P lines: a before b),
-- and those under a condition (Q lines).
pub record Book : Type 0 where
  pub statements : ℕ
  pub plain : List Rule
  pub exceptions : List Rule
  pub preferences : List (ℕ × ℕ)
  pub conditional : List Conditional

-- The S of a pair (S, T); its T is the set `taken`.
abbrev pub conclusions : Pair → Conclusions
conclusions p = record { held = p.held; denied = p.denied }

-- The pair is lawful for the book: T has exceptions of the book only (12), S statements of the book only (13), none both held and denied (14).
pub record Lawful (b : Book) (p : Pair) : Type 0 where
  pub exceptions : p.taken < 2 ^ length b.exceptions
  pub held : p.held < 2 ^ b.statements
  pub denied : p.denied < 2 ^ b.statements
  pub apart : Consistent (conclusions p)

-- The refusal of a pair, the first that applies: 12 taken has a bit past the exceptions; 13 held or denied has a bit past n; 14 they share a bit.
pub data PairRefused (b : Book) (p : Pair) : ℕ → Type 0 where
  past_exceptions : (p.taken < 2 ^ length b.exceptions → ⊥) → PairRefused b p 12
  past_statements : p.taken < 2 ^ length b.exceptions → ((p.held < 2 ^ b.statements) × (p.denied < 2 ^ b.statements) → ⊥) → PairRefused b p 13
  shared : p.taken < 2 ^ length b.exceptions → p.held < 2 ^ b.statements → p.denied < 2 ^ b.statements → (Consistent (conclusions p) → ⊥) → PairRefused b p 14

-- The rules of the list that the set t takes, the first being number i.
unfoldable pub taken_from : ℕ → List Rule → ℕ → List Rule
taken_from i [] t = []
taken_from i (r ∷ rs) t = cons_if (member i t) r (taken_from (suc i) rs t)

-- The exceptions that the pair takes; they are numbered from 1 in line order.
abbrev pub applied : Book → Pair → List Rule
applied b p = taken_from 1 b.exceptions p.taken
