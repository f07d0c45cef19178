-- A set of exceptions is minimal exactly where, for each of its members, there is no view within the set without that member.
-- A proper subset lacks some member; one probe for each member decides.
use mathlib.Core.Path.{◌≡◌, refl, sym}
use mathlib.Core.Bool.{Bool, true, false, not}
use mathlib.Core.List.{List}
use mathlib.Core.Logic.{⊎_elim}
use Prim.Native.Nat.{ℕ, zero, suc, ◌+◌, ◌^◌, ◌<◌, ◌≤◌}
use native.Mathlib.Nat.{le_refl, le_trans}
use native.Mathlib.Omega.{arith}
use borrow.Author.Count.{below_more}
use Rattle.logic.specs.Tests.{Decides}
use Rattle.logic.proofs.Decide.{clash, reworded}
use Rattle.sets.specs.declared.Pair.{Pair}
use Rattle.sets.specs.Sets.{bit_of, Within, Apart, without}
use Rattle.sets.proofs.Digits.{bit-lt, bit-over, bit-without, lt-or-le}
use Rattle.sets.proofs.Words as N
use Rattle.sets.proofs.Words.{single, single-has}
use Rattle.sets.proofs.Pairs.{sub_trans}
use Rattle.masks.specs.declared.Bounds.{Bounds}
use Rattle.masks.specs.Views.{MaskView}
use Rattle.masks.proofs.Booleans.{granted, decides-true, decides-false}
use Rattle.bounds.specs.Sound.{In, Propagated, with_sets}
use Rattle.bounds.proofs.Ranges.{in-sets, in-root, set_below}
use Rattle.std.specs.Prelude.{Option, Some, None, is_some}
use Rattle.probe.specs.Probes.{Probed}
use Rattle.admissible.specs.Admissible.{Minimal, MinimalAt}

lacks : (v e : ℕ) → bit_of v e ≡ 0 → Apart v (2 ^ e)
lacks v e z = ⊎_elim (λ f. absurd (let q = single-has e v f in omega arith)) (λ f i. let q = f i in omega arith) (single e v)

module _ (ws : List ℕ) (n : ℕ) (ranks : List ℕ) (root : Bounds) (taken e : ℕ) where
  module _ (x : ℕ) (ex : x ≡ without taken (2 ^ e)) (b : Bounds) (eb : b ≡ with_sets root 0 x) (a : Option Pair) (p : Probed ws n ranks b a) where
    lacking : b ≡ with_sets root 0 (without taken (2 ^ e))
    lacking = rw ex at eb

    -- A view that is found has a subset of taken that lacks e.
    minimal-found : (u : Pair) → (bit_of taken e ≡ 0 → ⊥) → a ≡ Some u → Decides false (MinimalAt ws n ranks root taken e)
    minimal-found u z ea = decides-false (λ k.
        let f = rw lacking at (p.found u ea) in
        let s : Within u.taken (without taken (2 ^ e)) = set_below root 0 _ u f.1 in
        let t : Within u.taken taken = λ i. le_trans (s i) (N.minus-sub taken (2 ^ e) i) in
        let own = single-has e (2 ^ e) (λ i. le_refl _) in
        let y = k.has u f.0 (in-root root 0 _ u f.1) t in
        z (omega (arith, s e, bit-without taken (2 ^ e) e, bit-lt taken e)))

    minimal-none : a ≡ None → Decides true (MinimalAt ws n ranks root taken e)
    minimal-none ea = decides-true (record { has = λ v w x f. go v w x f (bit_of v.taken e) refl })
      where
        go : (v : Pair) → MaskView ws n ranks v → In root v → Within v.taken taken → (d : ℕ) → bit_of v.taken e ≡ d → bit_of taken e ≤ d
        go v w x f zero ed = absurd (p.none ea v w (rw lacking (in-sets root 0 _ v x (N.none-sub _) (N.sub-minus _ _ _ f (lacks v.taken e ed)))))
        go v w x f (suc d) ed = omega (arith, bit-lt taken e)

  -- Whether a view is found decides.
  pub minimal-asked : (bit_of taken e ≡ 0 → ⊥) → (x : ℕ) → x ≡ without taken (2 ^ e) → (b : Bounds) → b ≡ with_sets root 0 x → (a : Option Pair) → Probed ws n ranks b a
      → (r : Bool) → is_some a ≡ not r → Decides r (MinimalAt ws n ranks root taken e)
  minimal-asked z x ex b eb None p true q = minimal-none x ex b eb None p refl
  minimal-asked z x ex b eb None p false q = absurd (clash q)
  minimal-asked z x ex b eb (Some u) p true q = absurd (clash (sym q))
  minimal-asked z x ex b eb (Some u) p false q = minimal-found x ex b eb (Some u) p u z refl

-- ---- all members
abbrev pub MinimalTo : List ℕ → ℕ → List ℕ → Bounds → ℕ → ℕ → Type 0
MinimalTo ws n ranks root taken k = (e : ℕ) → e < k → MinimalAt ws n ranks root taken e

module _ (ws : List ℕ) (n : ℕ) (ranks : List ℕ) (root : Bounds) (taken e : ℕ) where
  module _ (b : Bool) (d : Decides b (MinimalAt ws n ranks root taken e)) where
    pub minimal-turn : MinimalTo ws n ranks root taken e → not b ≡ false → MinimalTo ws n ranks root taken (e + 1)
    minimal-turn f q = below_more _ e f (granted d q)

  pub minimal-won : taken < 2 ^ 64 → 64 ≤ e → MinimalTo ws n ranks root taken e → Decides true (Minimal ws n ranks root taken)
  minimal-won h g f =
      decides-true (record { has = λ v w x s i. ⊎_elim (λ l. (f i (omega arith)).has v w x s) (λ l. omega (arith, bit-over taken 64 i h l)) (lt-or-le i 64) })

-- ---- what all subsets have in common
-- The views that matter are within the bounds that are left, and what is within these is within root.
pub minimal-beneath : (ws : List ℕ) (n : ℕ) (ranks : List ℕ) (root : Bounds) (taken : ℕ) (b o : Bounds) (r : Bool) → b ≡ with_sets root 0 taken → Propagated ws n ranks b o
    → Decides r (Minimal ws n ranks o taken) → Decides r (Minimal ws n ranks root taken)
minimal-beneath ws n ranks root taken b o r eb p0 d =
    let p : Propagated ws n ranks (with_sets root 0 taken) o = rw eb at p0 in
    reworded d
    (λ m. record { has = λ v w x f. m.has v w (p.keeps.kept v w (in-sets root 0 taken v x (N.none-sub _) f)) f })
    (λ m. record { has = λ v w x f. m.has v w (in-root root 0 taken v (record { lo = sub_trans p.lo x.lo; hi = sub_trans x.hi p.hi })) f })
