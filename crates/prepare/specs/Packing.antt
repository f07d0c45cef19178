-- What the functions that pack the rules and the Q lines of a book promise.
use Rattle.std.specs.Prelude.{ℕ, ◌+◌, ◌*◌, ◌^◌, ◌<◌, ◌≤◌, ◌≡◌, List, [], ◌∷◌, eqb, ℤ, nat_abs, length, get_or}
use Rattle.logic.specs.Tests.{pick}
use Rattle.book.specs.Limits as limit
use Rattle.book.specs.Kinds.{kind, entries_each, exception, preference_fields, conditional_numbers}
use Rattle.meaning.specs.Meant.{at, number, rule_at, condition_at}
use Rattle.masks.specs.declared.Masks.{Masks}
use Rattle.masks.specs.Views.{masks_at}
use Rattle.bridge.specs.Packed.{masks_of, line_of}
use Rattle.bridge.specs.Ranks.{Names}

-- The m numbers from place k on are there, and each names a statement or nothing.
pub record Readable (t : List ℤ) (k m : ℕ) : Type 0 where
  pub room : k + m ≤ length t
  pub small : (i : ℕ) → i < m → nat_abs (at t (k + i)) ≤ limit.statements

-- The row of a Q line at place k is there: two numbers that name exceptions, then entries.
pub record LineReadable (t : List ℤ) (k : ℕ) : Type 0 where
  pub upper : Names limit.exceptions (number (at t k))
  pub lower : Names limit.exceptions (number (at t (k + 1)))
  pub entries : Readable t (k + preference_fields) (entries_each + entries_each)

-- The set of its own exception that rule k of the kind at place q has: none for a plain rule.
unfoldable pub own_of : ℕ → ℕ → ℕ
own_of q k = pick (eqb q exception) (2 ^ k) 0

-- The words of a rule, in the order in which masks_at reads them.
unfoldable pub words_of : Masks → List ℕ
words_of r = r.head.held ∷ r.head.denied ∷ r.need.held ∷ r.need.denied ∷ r.need.taken ∷ r.bar.held ∷ r.bar.denied ∷ []

-- The masks of rule k of the kind at place q, the rows of which begin at a.
unfoldable pub rule_row : List ℤ → ℕ → ℕ → ℕ → Masks
rule_row t q a k = masks_of (record { own = own_of q k; rule = rule_at (kind q).heads t (a + k * (kind q).numbers) })

-- The masks of Q line j, the rows of which begin at a.
unfoldable pub line_row : List ℤ → ℕ → ℕ → Masks
line_row t a j = line_of (condition_at t (a + j * conditional_numbers))

-- Row n of the new words and those after it, m in all, are the masks that f gives; the other rows and words are the old ones.
pub record PackedTo (f : ℕ → Masks) (n : ℕ) (old new : List ℕ) (m : ℕ) : Type 0 where
  pub same : length new ≡ length old
  pub row : (k : ℕ) → k < m → masks_at new (n + k) ≡ f k
  pub before : (k : ℕ) → k < n → masks_at new k ≡ masks_at old k
  pub after : (i : ℕ) → (n + m) * 8 ≤ i → get_or new i 0 ≡ get_or old i 0

-- The words from place k on are zeros.
pub record Blank (ws : List ℕ) (k : ℕ) : Type 0 where
  pub zeros : (i : ℕ) → k ≤ i → get_or ws i 0 ≡ 0
