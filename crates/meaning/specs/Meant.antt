-- The book that the rows of a number table stand for (document 01, 'A book and its lines'; document 02, (e), (g)): R rows, then O rows, then X rows,
-- then P rows, then Q rows.
use Rattle.std.specs.Prelude.{ℕ, zero, suc, ◌+◌, List, [], ◌∷◌, ◌++◌, ℤ, negsuc, get_or}
use Rattle.std.proofs.Math.IntN as Z
use Rattle.book.specs.declared.Shape.{Shape}
use Rattle.book.specs.Kinds as kind
use Rattle.book.specs.Kinds.{entries_each, heads_each, rule_numbers, alternative_numbers, preference_numbers, conditional_numbers}
use Rattle.book.specs.Counts.{start_of}
use Rattle.meaning.specs.Literals.{Literal, pos, neg}
use Rattle.meaning.specs.Rules.{Rule}
use Rattle.meaning.specs.Preferences.{Conditional}
use Rattle.meaning.specs.Books.{Book}

-- The conclusion that a head or an entry names; 0 is unused: as an R line's head it makes a constraint.
unfoldable pub entry : ℤ → List Literal
entry (Z.pos zero) = []
entry (Z.pos (suc i)) = pos (suc i) ∷ []
entry (negsuc i) = neg (suc i) ∷ []

-- The number that names an exception.
unfoldable pub number : ℤ → ℕ
number (Z.pos i) = i
number (negsuc i) = 0

-- Number k of the rows.
abbrev pub at : List ℤ → ℕ → ℤ
at t k = get_or t k (Z.pos 0)

-- The entries of m numbers from k on.
unfoldable pub entries_at : List ℤ → ℕ → ℕ → List Literal
entries_at t k zero = []
entries_at t k (suc m) = entry (at t k) ++ entries_at t (k + 1) m

-- The rule whose row begins at k, with room for h heads: heads, needed entries, barred entries.
unfoldable pub rule_at : ℕ → List ℤ → ℕ → Rule
rule_at h t k = record { heads = entries_at t k h; body = record { needed = entries_at t (k + h) entries_each; barred = entries_at t (k + (h + entries_each)) entries_each } }

-- The rules of m rows of w numbers from k on, with room for h heads each.
unfoldable pub rules_at : ℕ → ℕ → List ℤ → ℕ → ℕ → List Rule
rules_at h w t k zero = []
rules_at h w t k (suc m) = rule_at h t k ∷ rules_at h w t (k + w) m

-- The preferences of m rows from k on: exception a before b.
unfoldable pub preferences_at : List ℤ → ℕ → ℕ → List (ℕ × ℕ)
preferences_at t k zero = []
preferences_at t k (suc m) = (number (at t k), number (at t (k + 1))) ∷ preferences_at t (k + preference_numbers) m

-- The preference under a condition whose row begins at k: exception a before b, needed entries, barred entries.
unfoldable pub condition_at : List ℤ → ℕ → Conditional
condition_at t k = record { line = (number (at t k), number (at t (k + 1))); body = record { needed = entries_at t (k + 2) entries_each; barred = entries_at t (k + (2 + entries_each)) entries_each } }

-- Those of m rows from k on.
unfoldable pub conditional_at : List ℤ → ℕ → ℕ → List Conditional
conditional_at t k zero = []
conditional_at t k (suc m) = condition_at t k ∷ conditional_at t (k + conditional_numbers) m

-- The book of this shape with these rows. Its plain rules are the R lines, then the O lines.
unfoldable pub book_of : Shape → List ℤ → Book
book_of s t = record {
  statements = s.statements;
  plain = rules_at 1 rule_numbers t (start_of s kind.plain) s.plain ++ rules_at heads_each alternative_numbers t (start_of s kind.alternative) s.alternatives;
  exceptions = rules_at 1 rule_numbers t (start_of s kind.exception) s.exceptions;
  preferences = preferences_at t (start_of s kind.preference) s.preferences;
  conditional = conditional_at t (start_of s kind.conditional) s.conditionals;
}
