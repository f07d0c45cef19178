-- The page of few views: the store, which is not full, has all views within the bounds, and its pairs are put on the page in order.
use mathlib.Core.Path.{◌≡◌, sym, ap, ◌∙◌}
use mathlib.Core.List.{List}
use mathlib.Core.Logic.{inl, inr, ⊎_elim}
use Prim.Native.Nat.{ℕ, zero, suc, ◌+◌, ◌-◌, ◌*◌, ◌<◌, ◌≤◌}
use native.Mathlib.Nat.{zero-add, le_refl}
use native.Mathlib.Omega.{arith}
use lib.ListN.{length, take}
use lib.Seq.{sets, sets-eq, take_all, take-length, length-take-le}
use Rattle.logic.specs.Lists.{Among}
use Rattle.sets.specs.declared.Pair.{Pair}
use Rattle.sets.specs.Pairs.{flat}
use Rattle.sets.proofs.Digits.{lt-or-le}
use Rattle.masks.specs.declared.Bounds.{Bounds}
use Rattle.masks.specs.Views.{MaskView}
use Rattle.bounds.specs.Sound.{In}
use Rattle.page.specs.Sought.{Sought}
use Rattle.page.specs.Pages.{pair_at, pairs_in, Page}
use Rattle.page.proofs.Pages.{flat-length, pairs-front}
use Rattle.std.specs.Prelude.{Option, None}
use Rattle.probe.specs.Probes.{Probed}
use Rattle.few.specs.declared.Place.{Place}
use Rattle.few.specs.Few.{Stock, Gathered, Collected, PutSorted, AllListed}

-- ---- the pairs of a store
pairs-among : (l : List ℕ) (k i j : ℕ) → i < k → Among (pair_at l (j + i)) (pairs_in l j k)
unfolding pairs_in
pairs-among l zero i j h = absurd (omega arith)
pairs-among l (suc k) zero j h = let e : j ≡ j + 0 = omega arith in inl (ap (pair_at l) e)
pairs-among l (suc k) (suc i) j h = let e : suc j + i ≡ j + suc i = omega arith in inr (rw e at (pairs-among l k i (suc j) (omega arith)))

pairs-at : (l : List ℕ) (k j : ℕ) (v : Pair) → Among v (pairs_in l j k) → (i : ℕ) × (i < k) × (v ≡ pair_at l (j + i))
unfolding pairs_in
pairs-at l zero j v m = absurd m
pairs-at l (suc k) j v m =
    ⊎_elim (λ q. let e : j ≡ j + 0 = omega arith in (0, omega arith, sym q ∙ ap (pair_at l) e))
    (λ n. let h = pairs-at l k (suc j) v n in let e : suc j + h.0 ≡ j + suc h.0 = omega arith in (suc h.0, omega (arith, h.1), h.2 ∙ ap (pair_at l) e)) m

-- A store that is not full has the pairs that were put into it.
stored : (cap : ℕ) (o o' : List ℕ) (ys : List Pair) (k : ℕ) → cap * 3 ≤ length o → k < cap → Page cap 0 o o' ys k → pairs_in o' 0 k ≡ ys
stored cap o o' ys k h l p =
    let z : cap - 0 ≡ cap = omega arith in
    let n : length (take cap ys) ≡ k = let c = rw z at p.count in omega arith in
    let t : take cap ys ≡ ys = take_all cap ys (⊎_elim (λ l. omega arith) (λ g. absurd (omega (arith, length-take-le cap ys g))) (lt-or-le (length ys) cap)) in
    let m : length ys ≡ k = ap length (sym t) ∙ n in
    let f : o' ≡ sets o 0 (flat ys) = rw z at p.filled ∙ ap (λ (zs : List Pair). sets o 0 (flat zs)) t in
    let g = sets-eq (flat ys) o 0 (omega (arith, flat-length ys)) in
    rw (f, g) (pairs-front k ys _ (omega arith) ∙ ap (λ (j : ℕ). take j ys) (sym m) ∙ take-length ys)

module _ (ws : List ℕ) (n : ℕ) (ranks : List ℕ) (b : Bounds) (cap : ℕ) (s s' : List ℕ) (fuel : ℕ) (r : Place) (g : Gathered ws n ranks b cap 0 fuel s s' r) where
  pub collected-is : cap * 3 ≤ length s → (r.fuel ≡ 0 → ⊥) → Collected ws n ranks b cap s' r.at
  collected-is h f = record {
    few = g.few;
    some = g.some;
    whole = λ l. let w = g.whole (omega arith) l in rw (stored cap s s' w.0 r.at h l w.1) w.2;
  }

  -- The store counts as full: there is a view.
  pub collected-full : (r.at ≡ 0 → ⊥) → Collected ws n ranks b cap s' cap
  collected-full h = record { few = le_refl cap; some = λ l. g.some (omega arith); whole = λ l. absurd (omega arith) }

module _ {ws : List ℕ} {n : ℕ} {ranks : List ℕ} {b : Bounds} {a : Option Pair} (q : Probed ws n ranks b a) (cap : ℕ) (s : List ℕ) where
  pub collected-nothing : a ≡ None → Collected ws n ranks b cap s 0
  unfolding pairs_in
  collected-nothing e = record { few = omega arith; some = λ l. absurd (omega arith); whole = λ l. record { only = λ v m. absurd m; all = λ v y i. q.none e v y i } }

-- ---- the page
pub store-listed : (ws ranks : List ℕ) (q : Sought) (b : Bounds) (store : List ℕ) (k at : ℕ) (o o' : List ℕ) (r : ℕ) → PutSorted store k q.room at o o' r → AllListed ws ranks q b store k at o o' r
store-listed ws ranks q b store k at o o' r p = record {
  fits = p.fits;
  page = λ s u zs a t. p.page
      (record {
        taken = λ i j m n. u.same (pair_at store i) (pair_at store j) (here s i m).1 (here s j n).1;
        coherent = λ i m. (here s i m).0.coherent;
      }) zs
      (record {
        ascending = a;
        all = λ i m. let d = here s i m in t.all _ d.0 d.1;
        only = λ z m. let d = t.only z m in let e = pairs-at store k 0 z (s.all z d.0 d.1) in (e.0, e.1, rw (zero-add e.0) at e.2);
      });
}
  where
    here : Stock ws q.rules ranks b (pairs_in store 0 k) → (i : ℕ) → i < k → MaskView ws q.rules ranks (pair_at store i) × In b (pair_at store i)
    here s i m = s.only (pair_at store i) (rw (zero-add i) at (pairs-among store k i 0 m))
