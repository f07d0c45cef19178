-- A view within split bounds is within one of the halves, and each half is smaller: so the search is right, and ends.
-- A pair has the member or lacks it.
use Rattle.std.specs.Prelude.{Option, Some, None}
use Rattle.std.proofs.Common.{◌≡◌, ℕ, ◌<◌, List, ⊎_elim, arith}
use Rattle.sets.specs.declared.Pair.{Pair}
use Rattle.sets.proofs.Pairs.{off-sym}
use Rattle.masks.specs.declared.Bounds.{Bounds}
use Rattle.masks.specs.Views.{MaskView}
use Rattle.bounds.specs.Sound.{In, into_of, out_of}
use Rattle.bounds.proofs.Steps.{in-into, in-out}
use Rattle.bounds.proofs.Halves.{room, half_out, half-into, out-whole, into-whole}
use Rattle.probe.specs.declared.Node.{Node}
use Rattle.queue.specs.declared.waiting.Waiting.{Waiting}
use Rattle.probe.specs.declared.Node.TheVariants.{View, Empty, Open}
use Rattle.probe.specs.Probes.{Probed, Halved, Opened}

found-only : {ws : List ℕ} {n : ℕ} {ranks : List ℕ} {b : Bounds} {v : Pair} → (MaskView ws n ranks v) × (In b v) → Probed ws n ranks b (Some v)
found-only {v = v} p = record {
  found = λ u q. let e : v ≡ u = cc in rw (← e) p;
  none = λ q. absurd (let z : ◌≡◌ {A = ℕ} 0 1 = cc in omega arith);
}

module _ {ws : List ℕ} {n : ℕ} {ranks : List ℕ} {b : Bounds} {x : Node} (o : Opened ws n ranks b x) where
  pub probed-view : (v : Pair) → x ≡ View v → Probed ws n ranks b (Some v)
  probed-view v e = found-only (o.view v e)

  pub probed-empty : x ≡ Empty → Probed ws n ranks b None
  probed-empty e = record { found = λ v q. absurd (let z : ◌≡◌ {A = ℕ} 0 1 = cc in omega arith); none = λ q. o.empty e }

  module _ (c : Bounds) (m : Pair) (live : Waiting) (e : x ≡ Open c m live) where
    h : Halved ws n ranks b c m
    h = o.halves c m live e

    pub out-less : (p : Bounds) → p ≡ out_of c m → room p < room b
    out-less = half_out h.narrow.lo h.narrow.hi h.ordered h.some h.inside

    pub into_less : (p : Bounds) → p ≡ into_of c m → room p < room b
    into_less = half-into h.narrow.lo h.narrow.hi h.ordered h.some h.inside

    pub from_out : {v : Pair} → In (out_of c m) v → In b v
    from_out = out-whole m h.narrow.lo h.narrow.hi

    pub from-into : {v : Pair} → In (into_of c m) v → In b v
    from-into = into-whole m h.narrow.lo h.narrow.hi

    pub probed-out : (p : Bounds) (a : Option Pair) (v : Pair) → p ≡ out_of c m → Probed ws n ranks p a → a ≡ Some v → Probed ws n ranks b (Some v)
    probed-out p a v ep q ea = let f = rw ep at (q.found v ea) in found-only (f.0, from_out f.1)

    pub probed-into : (p p' : Bounds) (a a' : Option Pair) → p ≡ out_of c m → Probed ws n ranks p a → a ≡ None → p' ≡ into_of c m → Probed ws n ranks p' a' → Probed ws n ranks b a'
    probed-into p p' a a' ep q ea ep' q' = record {
      found = λ u k. let f = rw ep' at (q'.found u k) in (f.0, from-into f.1);
      none = λ k v w y.
          let z = h.narrow.keeps.kept v w y in
          ⊎_elim (λ g. q'.none k v w (rw ep' (in-into g z))) (λ g. q.none ea v w (rw ep (in-out (off-sym g) z))) (h.atom v);
    }
