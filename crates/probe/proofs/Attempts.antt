-- A search that may stop is right where it has an answer; and shaving is sound: where one value of a member is refuted, every view has the other.
use Rattle.std.specs.Prelude.{Option, Some, None}
use Rattle.std.proofs.Common.{◌≡◌, ℕ, Bool, true, not, List, ⊎_elim, arith}
use Rattle.logic.specs.Tests.{Decides}
use Rattle.sets.specs.declared.Pair.{Pair}
use Rattle.sets.specs.Pairs.{Sub, Atom}
use Rattle.sets.proofs.Pairs.{sub_refl, sub_trans, join-l, minus-sub, off-sym}
use Rattle.masks.specs.declared.Bounds.{Bounds}
use Rattle.masks.specs.Views.{MaskView}
use Rattle.masks.proofs.Booleans.{refused}
use Rattle.bounds.specs.Sound.{In, into_of, out_of, Propagated}
use Rattle.bounds.proofs.Steps.{in-into, in-out, keeps_same, keeps_then}
use Rattle.queue.specs.declared.waiting.Waiting.{Waiting}
use Rattle.probe.specs.declared.Outcome.{Outcome}
use Rattle.probe.specs.declared.Outcome.TheVariants.{Has, Lacks, Stopped}
use Rattle.probe.specs.declared.Node.{Node}
use Rattle.probe.specs.declared.Node.TheVariants.{View, Empty, Open}
use Rattle.probe.specs.Probes.{Probed, Attempted, Opened}
use Rattle.probe.proofs.Halves.{from_out, from-into}

-- ---- a search that may stop
has-only : {ws : List ℕ} {n : ℕ} {ranks : List ℕ} {b : Bounds} {v : Pair} → (MaskView ws n ranks v) × (In b v) → Attempted ws n ranks b (Has v)
has-only {v = v} p = record {
  found = λ u q. let e : v ≡ u = cc in rw (← e) p;
  none = λ k q. absurd (let z : ◌≡◌ {A = ℕ} 0 1 = cc in omega arith);
}

pub attempt-stopped : {ws : List ℕ} {n : ℕ} {ranks : List ℕ} {b : Bounds} → Attempted ws n ranks b Stopped
attempt-stopped = record {
  found = λ u q. absurd (let z : ◌≡◌ {A = ℕ} 0 1 = cc in omega arith);
  none = λ k q. absurd (let z : ◌≡◌ {A = ℕ} 0 1 = cc in omega arith);
}

module _ {ws : List ℕ} {n : ℕ} {ranks : List ℕ} {b : Bounds} {x : Node} (o : Opened ws n ranks b x) where
  pub attempt-view : (v : Pair) → x ≡ View v → Attempted ws n ranks b (Has v)
  attempt-view v e = has-only (o.view v e)

  pub attempt-empty : (left : ℕ) → x ≡ Empty → Attempted ws n ranks b (Lacks left)
  attempt-empty left e = record { found = λ v q. absurd (let z : ◌≡◌ {A = ℕ} 0 1 = cc in omega arith); none = λ k q. o.empty e }

  module _ (c : Bounds) (m : Pair) (live : Waiting) (e : x ≡ Open c m live) where
    pub attempt-out : (p : Bounds) (a : Outcome) (v : Pair) → p ≡ out_of c m → Attempted ws n ranks p a → a ≡ Has v → Attempted ws n ranks b (Has v)
    attempt-out p a v ep q ea = let f = rw ep at (q.found v ea) in has-only (f.0, from_out o c m live e f.1)

    pub attempt-into : (p p' : Bounds) (a a' : Outcome) (left : ℕ) → p ≡ out_of c m → Attempted ws n ranks p a → a ≡ Lacks left → p' ≡ into_of c m → Attempted ws n ranks p' a' → Attempted ws n ranks b a'
    attempt-into p p' a a' left ep q ea ep' q' = record {
      found = λ u k. let f = rw ep' at (q'.found u k) in (f.0, from-into o c m live e f.1);
      none = λ l k v w y.
          let h = o.halves c m live e in
          let z = h.narrow.keeps.kept v w y in
          ⊎_elim (λ g. q'.none l k v w (rw ep' (in-into g z))) (λ g. q.none left ea v w (rw ep (in-out (off-sym g) z))) (h.atom v);
    }

-- ---- what the whole search makes of it
module _ {ws : List ℕ} {n : ℕ} {ranks : List ℕ} {b : Bounds} {a : Outcome} (q : Attempted ws n ranks b a) where
  pub asked-has : (v : Pair) → a ≡ Has v → Probed ws n ranks b (Some v)
  asked-has v e = record {
    found = λ u k. let d : v ≡ u = cc in rw (← d) (q.found v e);
    none = λ k. absurd (let z : ◌≡◌ {A = ℕ} 0 1 = cc in omega arith);
  }

  pub asked-lacks : (left : ℕ) → a ≡ Lacks left → Probed ws n ranks b None
  asked-lacks left e = record { found = λ v k. absurd (let z : ◌≡◌ {A = ℕ} 0 1 = cc in omega arith); none = λ k. q.none left e }

-- ---- shaving
pub shave-none : (ws : List ℕ) (n : ℕ) (ranks : List ℕ) (b : Bounds) → Propagated ws n ranks b b
shave-none ws n ranks b = record { keeps = keeps_same b; lo = sub_refl _; hi = sub_refl _ }

pub shave-more : {ws : List ℕ} {n : ℕ} {ranks : List ℕ} {b c d : Bounds} → Propagated ws n ranks b c → Propagated ws n ranks c d → Propagated ws n ranks b d
shave-more f g = record { keeps = keeps_then f.keeps g.keeps; lo = sub_trans f.lo g.lo; hi = sub_trans g.hi f.hi }

-- A search within what propagation leaves is one within the bounds themselves.
pub probed-within : {ws : List ℕ} {n : ℕ} {ranks : List ℕ} {b c d : Bounds} {a : Option Pair} → Propagated ws n ranks b c → Propagated ws n ranks c d → Probed ws n ranks d a → Probed ws n ranks b a
probed-within f g q = record {
  found = λ v e. let z = q.found v e in (z.0, record { lo = sub_trans f.lo (sub_trans g.lo z.1.lo); hi = sub_trans z.1.hi (sub_trans g.hi f.hi) });
  none = λ e v w y. q.none e v w (g.keeps.kept v w (f.keeps.kept v w y));
}

module _ {ws : List ℕ} {n : ℕ} {ranks : List ℕ} (b : Bounds) (m : Pair) (atom : Atom m) (o p : Bounds) (eo : o ≡ out_of b m) (ep : p ≡ into_of b m) (o' p' : Bounds) (f : Propagated ws n ranks o o') (g : Propagated ws n ranks p p') where
  -- No view lacks the member.
  pub shave-into : (w : Bool) → Decides w (Sub o'.lo o'.hi) → not w ≡ true → Propagated ws n ranks b p'
  unfolding into_of
  shave-into w d e = record {
    keeps = record { kept = λ v k x. ⊎_elim (λ y. g.keeps.kept v k (rw ep (in-into y x))) (λ y. let z = f.keeps.kept v k (rw eo (in-out (off-sym y) x)) in absurd (refused d e (sub_trans z.lo z.hi))) (atom v) };
    lo = sub_trans (join-l _ _) (rw ep at g.lo);
    hi = rw ep at g.hi;
  }

  -- No view has it.
  pub shave-out : (w : Bool) → Decides w (Sub p'.lo p'.hi) → not w ≡ true → Propagated ws n ranks b o'
  unfolding out_of
  shave-out w d e = record {
    keeps = record { kept = λ v k x. ⊎_elim (λ y. let z = g.keeps.kept v k (rw ep (in-into y x)) in absurd (refused d e (sub_trans z.lo z.hi))) (λ y. f.keeps.kept v k (rw eo (in-out (off-sym y) x))) (atom v) };
    lo = rw eo at f.lo;
    hi = sub_trans (rw eo at f.hi) (minus-sub _ _);
  }
