-- A node says what is so of its bounds: from propagation, the tests of its two ends, and the exact test of a view.
-- Each `return` is one law. A clash of two constructors is a clash of two numbers.
use Rattle.std.proofs.Common.{◌≡◌, ℕ, Bool, true, false, not, List, arith}
use Rattle.logic.specs.Tests.{Decides}
use Rattle.sets.specs.declared.Pair.{Pair}
use Rattle.sets.specs.Sets.{Within, Apart}
use Rattle.sets.specs.Pairs.{Sub, Off, minus_of}
use Rattle.sets.proofs.Digits.{bit-lt}
use Rattle.sets.proofs.Pairs.{sub_refl, sub_trans, sub-both, sub-of-minus}
use Rattle.masks.specs.declared.Bounds.{Bounds}
use Rattle.masks.specs.Views.{MaskView}
use Rattle.masks.proofs.Booleans.{refused, granted}
use Rattle.least.specs.Founded.{Founded}
use Rattle.least.proofs.Laws.{view-founded}
use Rattle.bounds.specs.Singles.{one_of, Picked}
use Rattle.bounds.specs.Sound.{In, Propagated}
use Rattle.bounds.proofs.Singles.{one-atom, one-some}
use Rattle.queue.specs.declared.waiting.Waiting.{Waiting}
use Rattle.probe.specs.declared.Node.TheVariants.{View, Empty, Open}
use Rattle.probe.specs.Probes.{Opened}

-- ---- the member to split by
module _ (x y : Pair) (e : x ≡ y) where
  pub pick-heaviest : (s k : ℕ) (m : Pair) (w : Bool) → m ≡ one_of s k → Decides w (Sub m x) → w ≡ true → Picked y m
  pick-heaviest s k m w em d ew = rw em (record { atom = one-atom s k; some = one-some s k; inside = λ n. rw (e, em) at (d.yes ew) })

  pub pick-any : (m : Pair) → Picked x m → Picked y m
  pick-any m p = rw e at p

-- ---- the node
-- A node that is one kind is no other.
not-view : {P : Type 0} {v : Pair} → Empty ≡ View v → P
not-view e = absurd (let z : ◌≡◌ {A = ℕ} 0 1 = cc in omega arith)

not-open : {P : Type 0} {c : Bounds} {m : Pair} {live : Waiting} → Empty ≡ Open c m live → P
not-open e = absurd (let z : ◌≡◌ {A = ℕ} 0 1 = cc in omega arith)

module _ {ws : List ℕ} {n : ℕ} {ranks : List ℕ} (b : Bounds) where
  empty-node : ((v : Pair) → MaskView ws n ranks v → In b v → ⊥) → Opened ws n ranks b Empty
  empty-node f = record { view = λ v e. not-view e; alone = λ v e. not-view e; empty = λ e. f; halves = λ c m live e. not-open e }

  module _ (c : Bounds) (p : Propagated ws n ranks b c) (w : Bool) (dw : Decides w (Sub c.lo c.hi)) where
    pub node-refuted : not w ≡ true → Opened ws n ranks b Empty
    node-refuted e = empty-node (λ v k x. let y = p.keeps.kept v k x in refused dw e (sub_trans y.lo y.hi))

    module _ (ew : not w ≡ false) (s : Bool) (ds : Decides s (c.lo ≡ c.hi)) where
      -- A view within the bounds is their one end.
      one_end : s ≡ true → (u : Pair) → MaskView ws n ranks u → In b u → c.lo ≡ u
      one_end es u k x = let y = p.keeps.kept u k x in sub-both y.lo (rw (ds.yes es) y.hi)

      pub node-view : (t : Bool) → s ≡ true → Decides t (MaskView ws n ranks c.lo) → t ≡ true → Opened ws n ranks b (View c.lo)
      node-view t es dt et = record {
        view = λ v q. let e : c.lo ≡ v = cc in rw (← e) (dt.yes et, record { lo = p.lo; hi = sub_trans (granted dw ew) p.hi });
        alone = λ v q. let e : c.lo ≡ v = cc in rw (← e) (one_end es);
        empty = λ q. absurd (let z : ◌≡◌ {A = ℕ} 0 1 = cc in omega arith);
        halves = λ c m live q. absurd (let z : ◌≡◌ {A = ℕ} 0 1 = cc in omega arith);
      }

      pub node-empty : (t : Bool) → s ≡ true → Decides t (MaskView ws n ranks c.lo) → t ≡ false → Opened ws n ranks b Empty
      node-empty t es dt et = empty-node (λ v k x. let e = one_end es v k x in dt.no et (rw e k))

      -- The lower end is not the only set below it.
      pub node-unfounded : (t : Bool) → Decides t (Founded ws n c) → not t ≡ true → Opened ws n ranks b Empty
      node-unfounded t dt et = empty-node (λ v k x. refused dt et (view-founded k c (p.keeps.kept v k x)))

      pub node-open : (m : Pair) (live : Waiting) → s ≡ false → Picked (minus_of c.hi c.lo) m → Opened ws n ranks b (Open c m live)
      node-open m live es pm = record {
        view = λ v q. absurd (let z : ◌≡◌ {A = ℕ} 0 1 = cc in omega arith);
        alone = λ v q. absurd (let z : ◌≡◌ {A = ℕ} 0 1 = cc in omega arith);
        empty = λ q. absurd (let z : ◌≡◌ {A = ℕ} 0 1 = cc in omega arith);
        halves = λ c' m' live' q. let ec : c ≡ c' = cc in let em : m ≡ m' = cc in rw (← ec, ← em)
            (record { narrow = p; ordered = granted dw ew; atom = pm.atom; some = pm.some; inside = pm.inside open-left });
      }
        where
          alone : (a b : ℕ) → Apart a a → Within a b
          alone a b h i = let q = h i in let r = bit-lt a i in omega arith

          open-left : Off (minus_of c.hi c.lo) (minus_of c.hi c.lo) → ⊥
          open-left h =
              ds.no es (sub-both (granted dw ew) (sub-of-minus c.hi c.lo
              (record { held = alone _ _ h.held; denied = alone _ _ h.denied; taken = alone _ _ h.taken }) (sub_refl _)))
