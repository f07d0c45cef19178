-- A set is unexceeded exactly where, for each of its members, no view that stands has a subset without that member.
use mathlib.Core.Path.{◌≡◌, refl}
use mathlib.Core.Bool.{Bool, true, false, not}
use mathlib.Core.List.{List}
use mathlib.Core.Logic.{⊎_elim}
use Prim.Native.Nat.{ℕ, zero, suc, ◌+◌, ◌^◌, ◌<◌, ◌≤◌}
use native.Mathlib.Nat.{le_refl, le_trans}
use native.Mathlib.Omega.{arith}
use borrow.Author.Count.{below_more}
use Rattle.logic.specs.Tests.{Decides}
use Rattle.logic.proofs.Decide.{reworded}
use Rattle.sets.specs.declared.Pair.{Pair}
use Rattle.sets.specs.Sets.{bit_of, Within, Apart, without}
use Rattle.sets.proofs.Digits.{bit-lt, bit-over, bit-without, lt-or-le}
use Rattle.sets.proofs.Words as N
use Rattle.sets.proofs.Words.{single, single-has}
use Rattle.sets.proofs.Pairs.{sub_trans}
use Rattle.masks.specs.declared.Bounds.{Bounds}
use Rattle.masks.specs.Views.{MaskView}
use Rattle.masks.proofs.Booleans.{refused, granted, decides-true, decides-false}
use Rattle.bounds.specs.Sound.{In, Propagated, with_sets}
use Rattle.bounds.proofs.Ranges.{in-sets, in-root, set_below}
use Rattle.admissible.specs.Admissible.{Stands, Unexceeded}
use Rattle.standing.specs.declared.memory.Memory.{Memory}
use Rattle.standing.specs.Standing.{Right, StandingIn, UnexceededAt, UnexceededIn}

lacks : (v e : ℕ) → bit_of v e ≡ 0 → Apart v (2 ^ e)
lacks v e z = ⊎_elim (λ f. absurd (let q = single-has e v f in omega arith)) (λ f i. let q = f i in omega arith) (single e v)

-- ---- one member
module _ (ws : List ℕ) (n : ℕ) (ranks : List ℕ) (root b : Bounds) (mem : Memory) (taken e : ℕ) where
  -- If the memory is right it stays so, and the test decides.
  abbrev ToldAt : Memory → Bool → Type 0
  ToldAt mem' r = Right ws n ranks root mem → Right ws n ranks root mem' × Decides r (UnexceededAt ws n ranks root b taken e)

  pub at-absent : bit_of taken e ≡ 0 → ToldAt mem true
  at-absent z q = (q, decides-true (record { has = λ v y i s f. omega arith }))

  -- Every view within b has e.
  pub at-sure : bit_of b.lo.taken e ≡ 1 → ToldAt mem true
  at-sure z q = (q, decides-true (record { has = λ v y i s f. omega (arith, i.lo.taken e, bit-lt taken e) }))

  module _ (x : ℕ) (ex : x ≡ without taken (2 ^ e)) (c : Bounds) (ec : c ≡ with_sets b 0 x) where
    lacking : c ≡ with_sets b 0 (without taken (2 ^ e))
    lacking = rw ex at ec

    -- A view that is found has a subset of taken that lacks e.
    exceeds : (bit_of taken e ≡ 0 → ⊥) → (v : Pair) × MaskView ws n ranks v × In c v × Stands ws n ranks root v → UnexceededAt ws n ranks root b taken e → ⊥
    exceeds z k u =
        let i : In (with_sets b 0 (without taken (2 ^ e))) k.0 = rw lacking at k.2 in
        let s : Within k.0.taken (without taken (2 ^ e)) = set_below b 0 _ k.0 i in
        let own = single-has e (2 ^ e) (λ j. le_refl _) in
        let y = u.has k.0 k.1 (in-root b 0 _ k.0 i) k.3 (λ j. le_trans (s j) (N.minus-sub taken (2 ^ e) j)) in
        z (omega (arith, s e, bit-without taken (2 ^ e) e, bit-lt taken e))

    needed : ((v : Pair) → MaskView ws n ranks v → In c v → Stands ws n ranks root v → ⊥) → UnexceededAt ws n ranks root b taken e
    needed k = record { has = λ v y i s f. go v y i s f (bit_of v.taken e) refl }
      where
        go : (v : Pair) → MaskView ws n ranks v → In b v → Stands ws n ranks root v → Within v.taken taken → (d : ℕ) → bit_of v.taken e ≡ d → bit_of taken e ≤ d
        go v y i s f zero ed = absurd (k v y (rw lacking (in-sets b 0 _ v i (N.none-sub _) (N.sub-minus _ _ _ f (lacks v.taken e ed)))) s)
        go v y i s f (suc d) ed = omega (arith, bit-lt taken e)

    pub at-asked : (bit_of taken e ≡ 0 → ⊥) → (mem' : Memory) (x : Bool) → (Right ws n ranks root mem → Right ws n ranks root mem' × StandingIn ws n ranks root c x) → ToldAt mem' (not x)
    at-asked z mem' true f q = let g = f q in (g.0, decides-false (exceeds z (g.1.found refl)))
    at-asked z mem' false f q = let g = f q in (g.0, decides-true (needed (g.1.none refl)))

-- ---- all members
module _ (ws : List ℕ) (n : ℕ) (ranks : List ℕ) (root b : Bounds) (mem : Memory) (taken : ℕ) where
  -- So far: the memory is right, and each of the first k members is needed.
  abbrev pub SoFar : ℕ → Memory → Type 0
  SoFar k mem' = Right ws n ranks root mem → Right ws n ranks root mem' × ((e : ℕ) → e < k → UnexceededAt ws n ranks root b taken e)

  module _ (k : ℕ) (mem₁ : Memory) (s : SoFar k mem₁) where
    module _ (mem₂ : Memory) (r : Bool) (f : Right ws n ranks root mem₁ → Right ws n ranks root mem₂ × Decides r (UnexceededAt ws n ranks root b taken k)) where
      pub so-far-turn : not r ≡ false → SoFar (k + 1) mem₂
      so-far-turn e q = let g = s q in let i = f g.0 in (i.0, below_more _ k g.1 (granted i.1 e))

      pub so-far-lost : not r ≡ true → Right ws n ranks root mem → Right ws n ranks root mem₂ × Decides false (UnexceededIn ws n ranks root b taken)
      so-far-lost e q = let g = s q in let i = f g.0 in (i.0, decides-false (λ u. refused i.1 e (record { has = λ v y j z w. u.has v y j z w k })))

    pub so-far-all : taken < 2 ^ 64 → 64 ≤ k → Right ws n ranks root mem → Right ws n ranks root mem₁ × Decides true (UnexceededIn ws n ranks root b taken)
    so-far-all h l q =
        let g = s q in
        (g.0, decides-true (record { has = λ v y i z w j. ⊎_elim (λ m. (g.1 j (omega arith)).has v y i z w) (λ m. omega (arith, bit-over taken 64 j h m)) (lt-or-le j 64) }))

-- ---- what all subsets have in common
-- The views that matter are within the bounds that are left, and what is within these is within root.
pub beneath : (ws : List ℕ) (n : ℕ) (ranks : List ℕ) (root : Bounds) (mem mem' : Memory) (taken : ℕ) (b o : Bounds) (r : Bool) → b ≡ with_sets root 0 taken → Propagated ws n ranks b o
    → (Right ws n ranks root mem → Right ws n ranks root mem' × Decides r (UnexceededIn ws n ranks root o taken))
    → Right ws n ranks root mem → Right ws n ranks root mem' × Decides r (Unexceeded ws n ranks root taken)
beneath ws n ranks root mem mem' taken b o r eb p0 f q =
    let p : Propagated ws n ranks (with_sets root 0 taken) o = rw eb at p0 in
    let g = f q in (
      g.0,
      reworded g.1
          (λ m. record { has = λ v y i s w. m.has v y (p.keeps.kept v y (in-sets root 0 taken v i (N.none-sub _) w)) s w })
          (λ m. record { has = λ v y i s w. m.has v y (in-root root 0 taken v (record { lo = sub_trans p.lo i.lo; hi = sub_trans i.hi p.hi })) s w }),
    )
