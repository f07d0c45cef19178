-- The rules of a book as the masks that the search reads, eight words for each rule.
use Rattle.std.specs.Prelude.{ℕ, suc, ◌+◌, ◌-◌, ◌*◌, ◌^◌, ◌<◌, ◌≤◌, ◌≡◌, List, [], ◌∷◌, ◌++◌, length, get_or}
use Rattle.sets.specs.declared.Pair.{Pair}
use Rattle.sets.specs.Pairs.{join_of}
use Rattle.meaning.specs.Literals.{Literal, pos, neg}
use Rattle.meaning.specs.Rules.{Rule}
use Rattle.meaning.specs.Preferences.{Conditional}
use Rattle.meaning.specs.Books.{Book}
use Rattle.masks.specs.declared.Masks.{Masks}
use Rattle.masks.specs.Views.{masks_at, from_at}

-- The pair that has nothing.
abbrev pub nothing : Pair
nothing = record { taken = 0; held = 0; denied = 0 }

-- The pair that has one conclusion: statement i stands at place i - 1 of its word.
unfoldable pub mask_of : Literal → Pair
mask_of (pos i) = record { taken = 0; held = 2 ^ (i - 1); denied = 0 }
mask_of (neg i) = record { taken = 0; held = 0; denied = 2 ^ (i - 1) }

-- The pair that has the entries of a list.
unfoldable pub mask_all : List Literal → Pair
mask_all [] = nothing
mask_all (l ∷ ls) = join_of (mask_of l) (mask_all ls)

-- A rule of a book, with the set that holds its own exception and nothing else; the set is empty for a plain rule.
pub record Tagged : Type 0 where
  pub own : ℕ
  pub rule : Rule

-- The masks of a rule: its heads, its needed entries with its own exception, its barred entries.
unfoldable pub masks_of : Tagged → Masks
masks_of x = record {
  head = mask_all x.rule.heads;
  need = record { taken = x.own; held = (mask_all x.rule.body.needed).held; denied = (mask_all x.rule.body.needed).denied };
  bar = mask_all x.rule.body.barred;
}

-- Plain rules; exceptions, the first of which stands at place k.
unfoldable pub plainly : List Rule → List Tagged
plainly [] = []
plainly (r ∷ rs) = record { own = 0; rule = r } ∷ plainly rs

unfoldable pub numbered : ℕ → List Rule → List Tagged
numbered k [] = []
numbered k (r ∷ rs) = record { own = 2 ^ k; rule = r } ∷ numbered (suc k) rs

-- All rules of a book: the plain ones, then the exceptions.
unfoldable pub rules_of : Book → List Tagged
rules_of b = plainly b.plain ++ numbered 0 b.exceptions

-- What stands past the end of a list of rules.
abbrev pub blank : Tagged
blank = record { own = 0; rule = record { heads = []; body = record { needed = []; barred = [] } } }

-- What stands past the end of a list of Q lines.
abbrev pub blank_line : Conditional
blank_line = record { line = (0, 0); body = record { needed = []; barred = [] } }

-- The masks of a Q line: where it begins and ends, its needed entries, its barred entries.
unfoldable pub line_of : Conditional → Masks
line_of q = record {
  head = record { taken = 0; held = 2 ^ (q.line.0 - 1); denied = 2 ^ (q.line.1 - 1) };
  need = record { taken = 0; held = (mask_all q.body.needed).held; denied = (mask_all q.body.needed).denied };
  bar = mask_all q.body.barred;
}

-- After the n rules the words hold the Q lines of the book, in order, and then rows that begin nowhere, 32 in all.
pub record PacksLines (b : Book) (ws : List ℕ) (n : ℕ) : Type 0 where
  pub most : length b.conditional ≤ 32
  pub room : 0 < length b.conditional → (n + 32) * 8 ≤ length ws
  pub line_at : (j : ℕ) → j < length b.conditional → masks_at ws (n + j) ≡ line_of (get_or b.conditional j blank_line)
  pub past : (j : ℕ) → length b.conditional ≤ j → j < 32 → from_at ws n j ≡ 0

-- The words hold the n rules of the book, in order, and after them its Q lines.
pub record Packs (b : Book) (ws : List ℕ) (n : ℕ) : Type 0 where
  pub count : n ≡ length (rules_of b)
  pub rule_at : (k : ℕ) → k < n → masks_at ws k ≡ masks_of (get_or (rules_of b) k blank)
  pub lines : PacksLines b ws n
