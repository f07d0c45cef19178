-- A search that may stop is right where it has an answer, and so is the whole search, which begins anew from shaved bounds where it stopped.
use mathlib.Core.Path.{◌≡◌, sym}
use mathlib.Core.Bool.{Bool, true, false, not}
use mathlib.Core.List.{List}
use mathlib.Core.Logic.{⊎_elim}
use Prim.Native.Nat.{ℕ}
use native.Mathlib.Omega.{arith}
use Rattle.logic.specs.Tests.{Decides}
use Rattle.logic.proofs.Decide.{clash}
use Rattle.sets.specs.declared.Pair.{Pair}
use Rattle.sets.specs.Pairs.{Sub}
use Rattle.sets.proofs.Pairs.{sub_trans, off-sym}
use Rattle.masks.specs.declared.Bounds.{Bounds}
use Rattle.masks.specs.Views.{MaskView}
use Rattle.masks.proofs.Booleans.{refused}
use Rattle.bounds.specs.Sound.{In, into_of, out_of, Propagated}
use Rattle.bounds.proofs.Steps.{in-into, in-out}
use Rattle.queue.specs.declared.waiting.Waiting.{Waiting}
use Rattle.probe.specs.declared.Node.{Node}
use Rattle.probe.specs.declared.Node.TheVariants.{View, Empty, Open}
use Rattle.probe.specs.declared.Outcome.{Outcome}
use Rattle.probe.specs.declared.Outcome.TheVariants.{Has, Lacks, Stopped}
use Rattle.probe.specs.Probes.{Opened}
use Rattle.admissible.specs.Admissible.{Stands}
use Rattle.standing.specs.declared.memory.Memory.{Memory}
use Rattle.standing.specs.Standing.{Right, Unbanned, StandingIn, AttemptedIn}
use Rattle.standing.proofs.Halving.{in_left, from_out, from-into}

module _ (ws : List ℕ) (n : ℕ) (ranks : List ℕ) (root b : Bounds) where
  has-only : (v : Pair) → MaskView ws n ranks v × In b v × Stands ws n ranks root v → AttemptedIn ws n ranks root b (Has v)
  has-only v p = record {
    found = λ u q. let e : v ≡ u = cc in rw (← e) p;
    none = λ k q. absurd (let z : ◌≡◌ {A = ℕ} 0 1 = cc in omega arith);
  }

  lacks-all : (left : ℕ) → ((v : Pair) → MaskView ws n ranks v → In b v → Stands ws n ranks root v → ⊥) → AttemptedIn ws n ranks root b (Lacks left)
  lacks-all left f = record { found = λ v q. absurd (let z : ◌≡◌ {A = ℕ} 0 1 = cc in omega arith); none = λ k q. f }

  pub says_nothing : AttemptedIn ws n ranks root b Stopped
  says_nothing = record {
    found = λ v q. absurd (let z : ◌≡◌ {A = ℕ} 0 1 = cc in omega arith);
    none = λ k q. absurd (let z : ◌≡◌ {A = ℕ} 0 1 = cc in omega arith);
  }

-- ---- a search that may stop
module _ (ws : List ℕ) (n : ℕ) (ranks : List ℕ) (root b : Bounds) (mem : Memory) (x : Node) (o : Opened ws n ranks b x) where
  -- If the memory is right it stays so, and what is said of c is right.
  abbrev Tried : Memory → Bounds → Outcome → Type 0
  Tried mem' c r = Right ws n ranks root mem → Right ws n ranks root mem' × AttemptedIn ws n ranks root c r

  module _ (v : Pair) (e : x ≡ View v) (mem' : Memory) (r : Bool) (f : Right ws n ranks root mem → Right ws n ranks root mem' × Decides r (Stands ws n ranks root v)) where
    pub tried-fallen : r ≡ false → (left : ℕ) → Tried mem' b (Lacks left)
    tried-fallen d left q = let g = f q in (g.0, lacks-all ws n ranks root b left (λ u z i s. g.1.no d (rw (o.alone v e u z i) s)))

  pub tried-empty : x ≡ Empty → (left : ℕ) → Tried mem b (Lacks left)
  tried-empty e left q = (q, lacks-all ws n ranks root b left (λ v y i s. o.empty e v y i))

  module _ (c : Bounds) (m : Pair) (live : Waiting) (e : x ≡ Open c m live) (d : Bounds) (u : Unbanned ws n ranks mem c d) where
    left_in : Right ws n ranks root mem → (v : Pair) → MaskView ws n ranks v → In b v → Stands ws n ranks root v → In d v
    left_in = in_left ws n ranks root b mem x o c m live e d u

    -- Nothing is left of the bounds.
    pub tried-void : (w : Bool) → Decides w (Sub d.lo d.hi) → not w ≡ true → (left : ℕ) → Tried mem b (Lacks left)
    tried-void w dw ew left q = (q, lacks-all ws n ranks root b left (λ v y i s. let k = left_in q v y i s in refused dw ew (sub_trans k.lo k.hi)))

    module _ (p : Bounds) (ep : p ≡ out_of d m) (mem₁ : Memory) (a : Outcome) (f : Tried mem₁ p a) where
      pub tried-out : (v : Pair) → a ≡ Has v → Tried mem₁ b (Has v)
      tried-out v ea q =
          let g = f q in
          let k = rw ep at (g.1.found v ea) in
          (g.0, has-only ws n ranks root b v (k.0, from_out ws n ranks root b mem x o c m live e d u k.1, k.2))

      pub tried-into : (left : ℕ) → a ≡ Lacks left → (p' : Bounds) → p' ≡ into_of d m → (mem₂ : Memory) (a' : Outcome) → (Right ws n ranks root mem₁ → Right ws n ranks root mem₂ × AttemptedIn ws n ranks root p' a') → Tried mem₂ b a'
      tried-into left ea p' ep' mem₂ a' f' q =
          let g = f q in
          let g' = f' g.0 in (
            g'.0,
            record {
              found = λ v z. let k = rw ep' at (g'.1.found v z) in (k.0, from-into ws n ranks root b mem x o c m live e d u k.1, k.2);
              none = λ l z v y i s.
                  let k = left_in q v y i s in
                  ⊎_elim (λ t. g'.1.none l z v y (rw ep' (in-into t k)) s) (λ t. g.1.none left ea v y (rw ep (in-out (off-sym t) k)) s) ((o.halves c m live e).atom v);
            },
          )

-- ---- what the whole search makes of it
module _ (ws : List ℕ) (n : ℕ) (ranks : List ℕ) (root b : Bounds) (mem mem' : Memory) (a : Outcome) (f : Right ws n ranks root mem → Right ws n ranks root mem' × AttemptedIn ws n ranks root b a) where
  pub stands-has : (v : Pair) → a ≡ Has v → Right ws n ranks root mem → Right ws n ranks root mem' × StandingIn ws n ranks root b true
  stands-has v e q = let g = f q in let k = g.1.found v e in (g.0, record { found = λ z. (v, k.0, k.1, k.2); none = λ z. absurd (clash (sym z)) })

-- A search within what propagation leaves is one within the bounds themselves.
pub stands-within : {ws : List ℕ} {n : ℕ} {ranks : List ℕ} {root b c d : Bounds} {mem mem' : Memory} {r : Bool} → Propagated ws n ranks b c → Propagated ws n ranks c d
    → (Right ws n ranks root mem → Right ws n ranks root mem' × StandingIn ws n ranks root d r) → Right ws n ranks root mem → Right ws n ranks root mem' × StandingIn ws n ranks root b r
stands-within f g h q = let k = h q in (
  k.0,
  record {
    found = λ e. let z = k.1.found e in (z.0, z.1, record { lo = sub_trans f.lo (sub_trans g.lo z.2.lo); hi = sub_trans z.2.hi (sub_trans g.hi f.hi) }, z.3);
    none = λ e v w y. k.1.none e v w (g.keeps.kept v w (f.keeps.kept v w y));
  },
)
