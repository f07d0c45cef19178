-- The store has all views within the bounds: those of one half after those of the other.
use mathlib.Core.Path.{◌≡◌}
use mathlib.Core.List.{List, [], ◌∷◌, ◌++◌}
use mathlib.Core.Logic.{inl, ⊎_elim}
use Prim.Native.Nat.{ℕ, ◌+◌, ◌-◌, ◌*◌, ◌<◌, ◌≤◌}
use native.Mathlib.Omega.{arith}
use lib.Seq.{sets}
use Rattle.logic.proofs.Members.{among-left, among-right, among-either}
use Rattle.sets.specs.declared.Pair.{Pair}
use Rattle.sets.specs.Pairs.{flat}
use Rattle.sets.proofs.Digits.{lt-or-le}
use Rattle.sets.proofs.Pairs.{off-sym}
use Rattle.masks.specs.declared.Bounds.{Bounds}
use Rattle.masks.specs.Views.{MaskView}
use Rattle.bounds.specs.Sound.{In, into_of, out_of}
use Rattle.bounds.proofs.Steps.{in-into, in-out}
use Rattle.queue.specs.declared.waiting.Waiting.{Waiting}
use Rattle.probe.specs.declared.Node.{Node}
use Rattle.probe.specs.declared.Node.TheVariants.{View, Empty, Open}
use Rattle.probe.specs.Probes.{Opened}
use Rattle.probe.proofs.Halves.{from_out, from-into}
use Rattle.page.specs.Pages.{Page}
use Rattle.page.proofs.Pages.{page-none, page-one, page-append}
use Rattle.few.specs.declared.Place.{Place}
use Rattle.few.specs.Few.{most, Stock, Gathered}

-- The store keeps its length.
pub store-again : (cap l l' : ℕ) → cap * 3 ≤ l → l' ≡ l → cap * 3 ≤ l'
store-again cap l l' h e = rw e h

-- A store for the most views has room for fewer.
pub store-for : (cap l l' : ℕ) → cap ≤ most → most * 3 ≤ l → l' ≡ l → cap * 3 ≤ l'
store-for cap l l' g h e = omega arith

-- A full store promises nothing, and where the fuel is used up neither.
module _ (ws : List ℕ) (n : ℕ) (ranks : List ℕ) (b : Bounds) (cap k f : ℕ) (o : List ℕ) where
  module _ (x : Node) (w : Opened ws n ranks b x) where
    pub gathered-view : k < cap → (v : Pair) → x ≡ View v → (o' : List ℕ) → o' ≡ sets o (k * 3) (flat (v ∷ [])) → Gathered ws n ranks b cap k f o o' (record { at = k + 1; fuel = f - 1 })
    gathered-view h v e o' g = record { few = omega arith; less = omega arith; some = λ l. (v, (w.view v e).0, (w.view v e).1); whole = λ z l. (v ∷ [], page-one cap k o o' v h g, stock) }
      where
        stock : Stock ws n ranks b (v ∷ [])
        stock = record {
          only = λ u m. ⊎_elim (λ q. rw (← q) (w.view v e)) (λ z. absurd z) m;
          all = λ u y i. inl (w.alone v e u y i);
        }

    pub gathered-empty : k ≤ cap → x ≡ Empty → Gathered ws n ranks b cap k f o o (record { at = k; fuel = f - 1 })
    gathered-empty h e = record { few = h; less = omega arith; some = λ l. absurd (omega arith); whole = λ z l. ([], page-none cap k o, record { only = λ v m. absurd m; all = λ v y i. w.empty e v y i }) }

    pub gathered-both : (c : Bounds) (m : Pair) (live : Waiting) → x ≡ Open c m live → (p p' : Bounds) → p ≡ out_of c m → p' ≡ into_of c m
        → (j r : Place) (o' o'' : List ℕ) → Gathered ws n ranks p cap k (f - 1) o o' j → Gathered ws n ranks p' cap j.at j.fuel o' o'' r → Gathered ws n ranks b cap k f o o'' r
    gathered-both c m live e p p' ep ep' j r o' o'' g g' = record { few = g'.few; less = omega (arith, g.less, g'.less); some = some; whole = whole }
      where
        both : (ys zs : List Pair) → Stock ws n ranks p ys → Stock ws n ranks p' zs → Stock ws n ranks b (ys ++ zs)
        both ys zs s t = record {
          only = λ v a. ⊎_elim (λ y. let f = rw ep at (s.only v y) in (f.0, from_out w c m live e f.1)) (λ z. let f = rw ep' at (t.only v z) in (f.0, from-into w c m live e f.1)) (among-either v ys zs a);
          all = λ v y i.
              let h = w.halves c m live e in
              let z = h.narrow.keeps.kept v y i in
              ⊎_elim (λ a. among-right v ys zs (t.all v y (rw ep' (in-into a z)))) (λ a. among-left v ys zs (s.all v y (rw ep (in-out (off-sym a) z)))) (h.atom v);
        }

        some : k < r.at → (v : Pair) × MaskView ws n ranks v × In b v
        some h =
            ⊎_elim (λ l. let f = g.some l in (f.0, f.1, from_out w c m live e (rw ep at f.2)))
            (λ l. let f = g'.some (omega arith) in (f.0, f.1, from-into w c m live e (rw ep' at f.2))) (lt-or-le k j.at)

        whole : 0 < r.fuel → r.at < cap → (ys : List Pair) × Page cap k o o'' ys r.at × Stock ws n ranks b ys
        whole l h =
            let z = g'.whole l h in
            let y = g.whole (omega (arith, g'.less)) (omega (arith, z.1.count)) in
            (y.0 ++ z.0, page-append cap k j.at r.at o o' o'' y.0 z.0 y.1 z.1, both y.0 z.0 y.2 z.2)
