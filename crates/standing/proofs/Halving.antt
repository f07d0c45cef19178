-- A view that stands is within one of the halves of what bans and rules leave of the bounds, and each half is smaller: so the search is right, and ends.
use mathlib.Core.Path.{◌≡◌, refl, sym}
use mathlib.Core.Bool.{Bool, true, false, not}
use mathlib.Core.List.{List}
use mathlib.Core.Logic.{⊎_elim}
use Prim.Native.Nat.{ℕ, ◌<◌}
use native.Mathlib.Omega.{arith}
use Rattle.logic.specs.Tests.{Decides}
use Rattle.logic.proofs.Decide.{clash}
use Rattle.sets.specs.declared.Pair.{Pair}
use Rattle.sets.specs.Pairs.{Sub, join_of, meet_of, minus_of}
use Rattle.sets.proofs.Pairs.{sub_refl, meet-r, off-sub, sub_trans, sub-minus, join-l, join-r, join-sub, minus-sub, minus-off, off-sym}
use Rattle.masks.specs.declared.Bounds.{Bounds}
use Rattle.masks.specs.Views.{MaskView}
use Rattle.masks.proofs.Booleans.{refused}
use Rattle.masks.proofs.Sums.{total-le}
use Rattle.bounds.specs.Sound.{In, into_of, out_of}
use Rattle.bounds.specs.Singles.{Picked}
use Rattle.bounds.proofs.Steps.{in-into, in-out}
use Rattle.queue.specs.declared.waiting.Waiting.{Waiting}
use Rattle.probe.specs.declared.Node.{Node}
use Rattle.probe.specs.declared.Node.TheVariants.{View, Empty, Open}
use Rattle.probe.specs.Probes.{Halved, Opened}
use Rattle.bounds.proofs.Halves.{room}
use Rattle.probe.proofs.Halves.{out-less, into_less}
use Rattle.admissible.specs.Admissible.{Stands}
use Rattle.standing.specs.declared.memory.Memory.{Memory}
use Rattle.standing.specs.Standing.{Right, Unbanned, Split, same, other, StandingIn}

module _ (ws : List ℕ) (n : ℕ) (ranks : List ℕ) (root b : Bounds) (mem : Memory) (x : Node) (o : Opened ws n ranks b x) where
  -- If the memory is right it stays so, and P holds.
  abbrev Told : Memory → Bounds → Bool → Type 0
  Told mem' c r = Right ws n ranks root mem → Right ws n ranks root mem' × StandingIn ws n ranks root c r

  none-stands : ((v : Pair) → MaskView ws n ranks v → In b v → Stands ws n ranks root v → ⊥) → StandingIn ws n ranks root b false
  none-stands f = record { found = λ e. absurd (clash e); none = λ e. f }

  pub told-view : (v : Pair) → x ≡ View v → (mem' : Memory) (r : Bool) → (Right ws n ranks root mem → Right ws n ranks root mem' × Decides r (Stands ws n ranks root v)) → Told mem' b r
  told-view v e mem' r f q =
      let g = f q in
      let y = o.view v e in
      (g.0, record { found = λ k. (v, y.0, y.1, g.1.yes k); none = λ k u z i s. g.1.no k (rw (o.alone v e u z i) s) })

  pub told-empty : x ≡ Empty → Told mem b false
  told-empty e q = (q, none-stands (λ v y i s. o.empty e v y i))

  module _ (c : Bounds) (m : Pair) (live : Waiting) (e : x ≡ Open c m live) (d : Bounds) (u : Unbanned ws n ranks mem c d) where
    h : Halved ws n ranks b c m
    h = o.halves c m live e

    -- What is left has every view within b that stands.
    pub in_left : Right ws n ranks root mem → (v : Pair) → MaskView ws n ranks v → In b v → Stands ws n ranks root v → In d v
    in_left q v y i s = (u.keeps root q).kept v (record { view = y; stands = s }) (h.narrow.keeps.kept v y i)

    from-left : {v : Pair} → In d v → In b v
    from-left i = record { lo = sub_trans h.narrow.lo (sub_trans u.lo i.lo); hi = sub_trans i.hi (sub_trans u.hi h.narrow.hi) }

    pub from_out : {v : Pair} → In (out_of d m) v → In b v
    unfolding out_of
    from_out i = from-left (record { lo = i.lo; hi = sub_trans i.hi (minus-sub _ _) })

    pub from-into : {v : Pair} → In (into_of d m) v → In b v
    unfolding into_of
    from-into i = from-left (record { lo = sub_trans (join-l _ _) i.lo; hi = i.hi })

    -- Each half is smaller than b: no larger than the half of the bounds that were not narrowed by bans.
    pub less-out : (p : Bounds) → p ≡ out_of d m → room p < room b
    unfolding out_of
    less-out p ep =
        rw ep (let a : Sub (minus_of d.hi m) (minus_of c.hi m) = sub-minus (sub_trans (minus-sub _ _) u.hi) (minus-off _ _) in
        omega (arith, out-less o c m live e (out_of c m) refl, total-le a, total-le u.lo))

    pub less-into : (p : Bounds) → p ≡ into_of d m → room p < room b
    unfolding into_of
    less-into p ep =
        rw ep (let a : Sub (join_of c.lo m) (join_of d.lo m) = join-sub (sub_trans u.lo (join-l _ _)) (join-r _ _) in
        omega (arith, into_less o c m live e (into_of c m) refl, total-le a, total-le u.hi))

    -- Nothing is left.
    pub told-void : (w : Bool) → Decides w (Sub d.lo d.hi) → not w ≡ true → Told mem b false
    told-void w dw ew q = (q, none-stands (λ v y i s. let k = in_left q v y i s in refused dw ew (sub_trans k.lo k.hi)))

    module _ (p : Bounds) (ep : p ≡ out_of d m) (mem₁ : Memory) (a : Bool) (f : Told mem₁ p a) where
      pub told-out : a ≡ true → Told mem₁ b true
      told-out ea q =
          let g = f q in
          let k = rw ep at (g.1.found ea) in
          (g.0, record { found = λ z. (k.0, k.1, from_out k.2, k.3); none = λ z. absurd (clash (sym z)) })

      pub told-into : a ≡ false → (p' : Bounds) → p' ≡ into_of d m → (mem₂ : Memory) (a' : Bool) → (Right ws n ranks root mem₁ → Right ws n ranks root mem₂ × StandingIn ws n ranks root p' a') → Told mem₂ b a'
      told-into ea p' ep' mem₂ a' f' q =
          let g = f q in
          let g' = f' g.0 in (
            g'.0,
            record {
              found = λ z. let k = rw ep' at (g'.1.found z) in (k.0, k.1, from-into k.2, k.3);
              none = λ z v y i s.
                  let k = in_left q v y i s in
                  ⊎_elim (λ t. g'.1.none z v y (rw ep' (in-into t k)) s) (λ t. g.1.none ea v y (rw ep (in-out (off-sym t) k)) s) (h.atom v);
            },
          )

-- ---- another member to split by
module _ (ws : List ℕ) (n : ℕ) (ranks : List ℕ) (b c : Bounds) (mem : Memory) (d : Bounds) (u : Unbanned ws n ranks mem c d) where
  -- One that is open in what is left of the bounds will do as well.
  resplit : (m r : Pair) → Halved ws n ranks b c m → Split d m r → Halved ws n ranks b c r
  resplit m r h (same e) = rw e h
  resplit m r h (other a s i) = record { narrow = h.narrow; ordered = h.ordered; atom = a; some = s; inside = sub_trans i (sub-minus (sub_trans (minus-sub _ _) u.hi) (off-sub (sub_refl _) u.lo (minus-off _ _))) }

  pub opened-anew : (x : Node) → Opened ws n ranks b x → (m r : Pair) (live : Waiting) → x ≡ Open c m live → Split d m r → Opened ws n ranks b (Open c r live)
  opened-anew x o m r live e s = record {
    view = λ v q. absurd (let z : ◌≡◌ {A = ℕ} 0 1 = cc in omega arith);
    alone = λ v q. absurd (let z : ◌≡◌ {A = ℕ} 0 1 = cc in omega arith);
    empty = λ q. absurd (let z : ◌≡◌ {A = ℕ} 0 1 = cc in omega arith);
    halves = λ c' m' l q. let ec : c ≡ c' = cc in let em : r ≡ m' = cc in rw (← ec, ← em) (resplit m r (o.halves c m live e) s);
  }

pub split-picked : (b : Bounds) (m x y z s : Pair) → x ≡ meet_of y z → z ≡ minus_of b.hi b.lo → Picked x s → Sub s x → Split b m s
split-picked b m x y z s e d p f = other p.atom p.some (sub_trans (rw (e, d) at f) (meet-r y (minus_of b.hi b.lo)))
