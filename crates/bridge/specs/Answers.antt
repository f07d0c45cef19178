-- The parts of a view that verdicts 1 and 3 test, of rules as masks; masks.Level is the part that verdict 2 tests.
use Rattle.std.specs.Prelude.{ℕ, ◌<◌, ◌≡◌, List}
use Rattle.sets.specs.declared.Pair.{Pair}
use Rattle.sets.specs.Sets.{Apart}
use Rattle.sets.specs.Pairs.{Sub, Off}
use Rattle.masks.specs.declared.Masks.{Masks}
use Rattle.masks.specs.Views.{masks_at, Fires, MaskClosed, Taken}

-- Each of the first n rules of the words has the property.
abbrev pub OfAll : (Masks → Type 0) → List ℕ → ℕ → Type 0
OfAll P ws n = (k : ℕ) → k < n → P (masks_at ws k)

-- What an answer set is to each rule: it has one of its heads at least if it satisfies its body, so it satisfies no constraint's.
pub record Obeys (v : Pair) (r : Masks) : Type 0 where
  pub closed : Fires r v v → Off r.head v → ⊥

-- The pair's S is an answer set of the first n rules, those of its T and the plain ones.
pub record MaskAnswers (ws : List ℕ) (n : ℕ) (v : Pair) : Type 0 where
  pub coherent : Apart v.held v.denied
  pub rules : OfAll (Obeys v) ws n
  pub minimal : (c : Pair) → c.taken ≡ v.taken → Sub c v → MaskClosed ws n v c → Sub v c

-- If the pair takes the rule, its S satisfies the rule's body.
pub record Satisfies (v : Pair) (r : Masks) : Type 0 where
  pub met : Taken r v → Fires r v v

-- Every body in the pair's T is satisfied by its S.
abbrev pub MaskBodies : List ℕ → ℕ → Pair → Type 0
MaskBodies ws n v = OfAll (Satisfies v) ws n
