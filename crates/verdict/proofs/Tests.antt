-- The tests are exact: each is true of what it tests and of nothing else.
-- Each `return` decides its proposition from what the tests before it decided; `all` over the numbers of the rules answers for every rule.
use mathlib.Core.Path.{◌≡◌}
use mathlib.Core.Bool.{Bool, true, false, not}
use mathlib.Core.List.{List}
use mathlib.Core.Logic.{⊎_elim}
use Prim.Native.Nat.{ℕ, ◌<◌}
use native.Mathlib.Omega.{arith}
use lib.Bits.{bit_and}
use lib.Dec.{eqb}
use lib.ListN.{length, get_or}
use Rattle.std.specs.Bool.{MatchBool}
use Rattle.std.specs.List.{AllWithin, HoldsAt, range_with_len}
use Rattle.std.proofs.lemmas.List.FromFn.{length-range_with_len, get_or-range_with_len}
use Rattle.logic.specs.Tests.{Decides}
use Rattle.logic.proofs.Decide.{decides_not, holds-or-not, reworded}
use Rattle.sets.specs.declared.Pair.{Pair}
use Rattle.sets.specs.Pairs.{Off}
use Rattle.sets.proofs.Words.{off-is, and_none, none-and}
use Rattle.sets.proofs.Pairs.{sub_refl}
use Rattle.masks.specs.declared.Masks.{Masks}
use Rattle.masks.specs.Views.{masks_at, Fires}
use Rattle.masks.specs.Closures.{only}
use Rattle.masks.proofs.Booleans.{refused, granted, decides-true, decides-false}
use Rattle.least.specs.Founded.{Founded}
use Rattle.least.proofs.Laws.{minimal-founded, closed-lower}
use Rattle.bridge.specs.Answers.{OfAll, Obeys, MaskAnswers, Satisfies}

-- ---- one rule
module _ (r : Masks) (v : Pair) (w : Bool) (d : Decides w (Fires r v v)) where
  pub obeys-idle : not w ≡ true → Decides true (Obeys v r)
  obeys-idle e = decides-true (record { closed = λ y. absurd (refused d e y) })

  pub obeys-head : (p : Bool) → not w ≡ false → Decides p (Off r.head v) → Decides (not p) (Obeys v r)
  obeys-head p e h = reworded (decides_not h) (λ x. record { closed = λ y. x }) (λ x. x.closed (granted d e))

  pub satisfies-fires : w ≡ true → Decides true (Satisfies v r)
  satisfies-fires e = decides-true (record { met = λ t. d.yes e })

  pub satisfies-untaken : w ≡ false → Decides (eqb (bit_and r.need.taken v.taken) 0) (Satisfies v r)
  satisfies-untaken e =
      reworded (off-is r.need.taken v.taken) (λ o. record { met = λ t. absurd (t o) })
      (λ f. ⊎_elim (λ o. o) (λ t. absurd (d.no e (f.met t))) (holds-or-not (off-is r.need.taken v.taken)))

-- ---- all rules
-- Number k of those below n is k.
nth : (n k : ℕ) → k < n → get_or (range_with_len 0 n) k 0 ≡ k
nth n k h = let e = get_or-range_with_len 0 n k 0 h in omega arith

-- What `all` over the numbers below n answers.
pub all-decides : (P : Masks → Type 0) (ws : List ℕ) (n : ℕ) (r : Bool)
    → MatchBool r (AllWithin (λ k. P (masks_at ws k)) (range_with_len 0 n) 0 (length (range_with_len 0 n)))
    ((k : ℕ) × (k < length (range_with_len 0 n)) × HoldsAt (λ k. P (masks_at ws k) → ⊥) (range_with_len 0 n) k) → Decides r (OfAll P ws n)
all-decides P ws n true m = decides-true (λ k h. rw (nth n k h) at (m k 0 (omega arith) (rw (length-range_with_len 0 n) h)))
all-decides P ws n false m =
    decides-false (λ f. let h = rw (length-range_with_len 0 n) at m.1 in (rw (nth n m.0 h) at (m.2 0)) (f m.0 h))

-- ---- the answer set
module _ (ws : List ℕ) (n : ℕ) (v : Pair) where
  pub answer-clash : (bit_and v.held v.denied ≡ 0 → ⊥) → Decides false (MaskAnswers ws n v)
  answer-clash f = decides-false (λ x. f (none-and _ _ x.coherent))

  pub answer-broken : (a : Bool) → Decides a (OfAll (Obeys v) ws n) → not a ≡ true → Decides false (MaskAnswers ws n v)
  answer-broken a d e = decides-false (λ x. refused d e x.rules)

  -- Its lower end is the only set below the bounds from v to v exactly where v is minimal.
  pub answer-founded : (a o : Bool) → bit_and v.held v.denied ≡ 0 → Decides a (OfAll (Obeys v) ws n) → not a ≡ false → Decides o (Founded ws n (only v)) → Decides o (MaskAnswers ws n v)
  answer-founded a o z d e q =
      reworded q
      (λ f. record { coherent = and_none _ _ z; rules = granted d e; minimal = λ c t g h. f.whole c (closed-lower ws n v c t g h) })
      (λ x. minimal-founded (λ k h. (x.rules k h).closed) x.minimal (only v) (record { lo = sub_refl v; hi = sub_refl v }))
