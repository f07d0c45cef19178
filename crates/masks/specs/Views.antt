-- What a view is (document 01), of rules as masks. A pair (S, T) is one value: the exceptions in T, the statements that S holds, those it denies.
use Rattle.std.specs.Prelude.{ℕ, ◌+◌, ◌*◌, ◌<◌, ◌≤◌, ◌≡◌, List, length, get_or}
use Rattle.sets.specs.declared.Pair.{Pair}
use Rattle.sets.specs.Sets.{bit_of, Apart}
use Rattle.sets.specs.Pairs.{Sub, Off}
use Rattle.masks.specs.declared.Masks.{Masks}

-- Rule k of the words, eight for each: its head, its needed entries, its own exception (0 for a plain rule), its barred entries; the last is not used.
unfoldable pub masks_at : List ℕ → ℕ → Masks
masks_at ws k = record {
  head = record { taken = 0; held = get_or ws (k * 8) 0; denied = get_or ws (k * 8 + 1) 0 };
  need = record { taken = get_or ws (k * 8 + 4) 0; held = get_or ws (k * 8 + 2) 0; denied = get_or ws (k * 8 + 3) 0 };
  bar = record { taken = 0; held = get_or ws (k * 8 + 5) 0; denied = get_or ws (k * 8 + 6) 0 };
}

-- What the rule needs, its exception too, is in c, and no barred entry is in v. With v for both, v satisfies the body.
pub record Fires (r : Masks) (v c : Pair) : Type 0 where
  pub needed : Sub r.need c
  pub unbarred : Off r.bar v

-- The pair c is closed under the first n rules, after those with a barred entry in v are dropped and the other barred entries struck: c has
-- one of a rule's heads at least where it has what the rule needs. A constraint has no head, so c lacks something that it needs.
abbrev pub MaskClosed : List ℕ → ℕ → Pair → Pair → Type 0
MaskClosed ws n v c = (k : ℕ) → k < n → Fires (masks_at ws k) v c → Off (masks_at ws k).head c → ⊥

-- The rule has no head.
pub record Constraint (r : Masks) : Type 0 where
  pub held : r.head.held ≡ 0
  pub denied : r.head.denied ≡ 0

-- The rule is an exception that v takes.
abbrev pub Taken : Masks → Pair → Type 0
Taken r v = Apart r.need.taken v.taken → ⊥

-- What a view is to every rule: it has one of its heads at least if it satisfies its body, so it satisfies no constraint's, and it satisfies the
-- body of each exception that it takes.
pub record Meets (r : Masks) (v : Pair) : Type 0 where
  pub closed : Fires r v v → Off r.head v → ⊥
  pub met : Taken r v → Fires r v v

-- The same of the first n rules.
abbrev pub MeetsAll : List ℕ → ℕ → Pair → Type 0
MeetsAll ws n v = (k : ℕ) → k < n → Meets (masks_at ws k) v

-- No taken exception outranks a taken one, where ranks has for each exception the set of those that it outranks.
abbrev pub Level : List ℕ → ℕ → Type 0
Level ranks taken = (a : ℕ) → a < length ranks → bit_of taken a ≡ 1 → Apart (get_or ranks a 0) taken

-- ---- preferences under a condition
-- The Q lines stand after the rules, a row of eight words for each as for a rule: the head's first word has the exception where the line begins, the
-- second the one where it ends, and the body is as a rule's. An exception is named by its place, one below its number.
-- Where line j begins and ends: the lines stand from row n of the words on.
abbrev pub from_at : List ℕ → ℕ → ℕ → ℕ
from_at ws n j = (masks_at ws (n + j)).head.held

abbrev pub to_at : List ℕ → ℕ → ℕ → ℕ
to_at ws n j = (masks_at ws (n + j)).head.denied

-- Line j counts in the pair: that satisfies its body.
abbrev pub Counts : List ℕ → ℕ → Pair → ℕ → Type 0
Counts ws n v j = Fires (masks_at ws (n + j)) v v

-- The words have lines: there is room for 32 rows, and the first is no row of zeros.
pub record Lined (ws : List ℕ) (n : ℕ) : Type 0 where
  pub room : (n + 32) * 8 ≤ length ws
  pub first : from_at ws n 0 ≡ 0 → ⊥

-- A step from a to c: the word of a has c, or a line with the property L begins at a and ends at c.
pub data Step (ws : List ℕ) (n : ℕ) (ranks : List ℕ) (L : ℕ → Type 0) (a c : ℕ) : Type 0 where
  rank : a < length ranks → bit_of (get_or ranks a 0) c ≡ 1 → Step ws n ranks L a c
  line : (j : ℕ) → j < 32 → L j → bit_of (from_at ws n j) a ≡ 1 → bit_of (to_at ws n j) c ≡ 1 → Step ws n ranks L a c

-- Steps lead from a to c, one or more of them.
pub data Leads (ws : List ℕ) (n : ℕ) (ranks : List ℕ) (L : ℕ → Type 0) : ℕ → ℕ → Type 0 where
  step : {a c : ℕ} → Step ws n ranks L a c → Leads ws n ranks L a c
  chain : {a d c : ℕ} → Step ws n ranks L a d → Leads ws n ranks L d c → Leads ws n ranks L a c

-- No member of the pair's T leads to a member by lines that count in the pair.
abbrev pub Uncrossed : List ℕ → ℕ → List ℕ → Pair → Type 0
Uncrossed ws n ranks v = (a c : ℕ) → bit_of v.taken a ≡ 1 → Leads ws n ranks (Counts ws n v) a c → bit_of v.taken c ≡ 1 → ⊥

-- Two lines are the same step.
abbrev pub Alike : List ℕ → ℕ → ℕ → ℕ → Type 0
Alike ws n i j = (masks_at ws (n + i)).head ≡ (masks_at ws (n + j)).head

-- Line j counts in w, and in v a line that is the same step.
abbrev pub Shared : List ℕ → ℕ → Pair → Pair → ℕ → Type 0
Shared ws n w v j = Counts ws n w j × ((i : ℕ) × (i < 32) × Counts ws n v i × Alike ws n i j)

-- By the steps given in both sets, a member of the T of w leads to one of the T of v: where both are views, w dominates v.
pub record MaskDominates (ws : List ℕ) (n : ℕ) (ranks : List ℕ) (w v : Pair) : Type 0 where
  pub upper : ℕ
  pub lower : ℕ
  pub upper_in : bit_of w.taken upper ≡ 1
  pub lower_in : bit_of v.taken lower ≡ 1
  pub leads : Leads ws n ranks (Shared ws n w v) upper lower

-- ---- views
-- The pair is a view of the first n rules: S is coherent, no proper subset of S is closed under the rules that S leaves, and T is as document 01 asks.
pub record MaskView (ws : List ℕ) (n : ℕ) (ranks : List ℕ) (v : Pair) : Type 0 where
  pub coherent : Apart v.held v.denied
  pub rules : MeetsAll ws n v
  pub minimal : (c : Pair) → c.taken ≡ v.taken → Sub c v → MaskClosed ws n v c → Sub v c
  pub level : Level ranks v.taken
  pub lined : Lined ws n → Uncrossed ws n ranks v
