-- Each return of the search makes the page that was promised, and the memory stays right from call to call.
use Rattle.std.proofs.Common.{◌≡◌, ℕ, ◌+◌, ◌-◌, ◌*◌, ◌<◌, ◌≤◌, Bool, true, false, not, List, [], ◌∷◌, arith}
use Rattle.std.specs.Prelude.{Option, Some, None}
use lib.Seq.{sets}
use Rattle.logic.specs.Tests.{Decides, both}
use Rattle.logic.proofs.Decide.{decides_not, decides_and, reworded}
use Rattle.sets.specs.declared.Pair.{Pair}
use Rattle.sets.specs.Pairs.{Sub, flat}
use Rattle.masks.specs.declared.Bounds.{Bounds}
use Rattle.masks.specs.Views.{MaskView}
use Rattle.masks.proofs.Booleans.{refused, granted}
use Rattle.bounds.specs.Sound.{Keeps}
use Rattle.queue.specs.declared.waiting.Waiting.{Waiting}
use Rattle.admissible.specs.Admissible.{Stands}
use Rattle.page.specs.Sought.{Sought}
use Rattle.page.specs.declared.Node.{Node}
use Rattle.page.specs.Orders.{PartOf}
use Rattle.page.specs.Pages.{Page, Settled, Tried, TriedOne, Branched, Started, Listed}
use Rattle.page.proofs.Listed.{all_listed}
use Rattle.page.proofs.Search.{finish-equal, finish-not, finish-put, settle-open, settle-last, one-full, one-cut, one-void, one-narrower, Trying, trying-next, trying-all, list_full, list-settled}
use Rattle.meaning.specs.Books.{Book, Lawful}
use Rattle.meaning.specs.Order.{Point}
use Rattle.meaning.specs.Twins.Verdicts.{view, views, dominated_by}
use Rattle.meaning.proofs.Twins.{decides-view, decides-dominated}
use Rattle.bridge.proofs.Views.{view-same}
use Rattle.resolution.proofs.Resolutions.{stands_same}
use Rattle.standing.specs.declared.memory.Memory.{Memory}
use Rattle.standing.specs.Standing.{Right, StandingView}
use Rattle.sifting.specs.Sifted.{Sifts, Asked, AllSifted}

-- ---- one part of the search
module _ (ws ranks : List ℕ) (root : Bounds) (q : Sought) where
  abbrev Wanted : Pair → Type 0
  Wanted = StandingView ws q.rules ranks root

  -- The memory is not touched.
  alone : (w : Memory) (r : ℕ) (S : Type 0) → r ≤ q.room → S → Sifts ws ranks root q w w r S
  alone w r S h s = record { most = h; memory = λ x. x; page = λ x. s }

  -- ---- every statement settled
  module _ (d : Node) (at : ℕ) (o : List ℕ) (w : Memory) (h : at < q.room) where
    pub sift-equal : d.equal ≡ true → Sifts ws ranks root q w w at (Settled Wanted q 0 d at o o at)
    sift-equal e = alone w at _ (omega arith) (finish-equal Wanted q d at o h e)

    module _ (e : d.equal ≡ false) (z : Bool) (dz : Decides z (MaskView ws q.rules ranks d.pair)) where
      pub sift-no-view : not z ≡ true → Sifts ws ranks root q w w at (Settled Wanted q 0 d at o o at)
      sift-no-view ez = alone w at _ (omega arith) (finish-not Wanted q d at o h e (λ v. refused dz ez v.view))

      module _ (w' : Memory) (y : Bool) (dy : Right ws q.rules ranks root w → Right ws q.rules ranks root w' × Decides y (Stands ws q.rules ranks root d.pair)) where
        pub sift-fallen : not y ≡ true → Sifts ws ranks root q w w' at (Settled Wanted q 0 d at o o at)
        sift-fallen ey = record {
          most = omega arith;
          memory = λ x. (dy x).0;
          page = λ x. finish-not Wanted q d at o h e (λ v. refused (dy x).1 ey v.stands);
        }

        pub sift-put : not z ≡ false → not y ≡ false → (o' : List ℕ) (r : ℕ) → (o' ≡ sets o (at * 3) (flat (d.pair ∷ []))) × (r ≡ at + 1) → Sifts ws ranks root q w w' r (Settled Wanted q 0 d at o o' r)
        sift-put ez ey o' r s = record {
          most = omega (arith, s.1);
          memory = λ x. (dy x).0;
          page = λ x. finish-put Wanted q d at o h e o' r (record { view = granted dz ez; stands = granted (dy x).1 ey }) s;
        }

  -- ---- a statement and its values
  module _ (left : ℕ) (d : Node) (at : ℕ) (o o' : List ℕ) (w w' : Memory) (r : ℕ) where
    pub sift-open : (left ≡ 0 → ⊥) → Sifts ws ranks root q w w' r (Tried Wanted q (left - 1) 3 d at o o' r) → Sifts ws ranks root q w w' r (Settled Wanted q left d at o o' r)
    sift-open n s = record { most = s.most; memory = s.memory; page = λ x. settle-open Wanted q left d at o o' r n (s.page x) }

    pub sift-last : left ≡ 0 → Sifts ws ranks root q w w' r (Settled Wanted q 0 d at o o' r) → Sifts ws ranks root q w w' r (Settled Wanted q left d at o o' r)
    sift-last e s = record { most = s.most; memory = s.memory; page = λ x. settle-last Wanted q left d at o o' r e (s.page x) }

  module _ (left value : ℕ) (d : Node) (at : ℕ) (o : List ℕ) (w : Memory) (place : at ≤ q.room) where
    pub sift-full : q.room ≤ at → Sifts ws ranks root q w w at (TriedOne Wanted q (left - 1) value d at o o at)
    sift-full l = alone w at _ place (one-full Wanted q left value d at o place l)

    module _ (b : Option Node) (br : Branched ws ranks q (left - 1) value d b) where
      pub sift-cut : b ≡ None → Sifts ws ranks root q w w at (TriedOne Wanted q (left - 1) value d at o o at)
      sift-cut e = alone w at _ place (one-cut Wanted q left value d at o place ws ranks (λ v x. x.view) b br e)

      module _ (c : Node) (e : b ≡ Some c) (k : Bounds) (keeps : (u : Bounds) → Right ws q.rules ranks u w → Keeps (StandingView ws q.rules ranks u) c.bounds k) where
        pub sift-void : (z : Bool) → Decides z (Sub k.lo k.hi) → not z ≡ true → Sifts ws ranks root q w w at (TriedOne Wanted q (left - 1) value d at o o at)
        sift-void z dz ez = record {
          most = place;
          memory = λ x. x;
          page = λ x. one-void Wanted q left value d at o place ws ranks (λ v y. y.view) b br c e k (keeps root x) (refused dz ez);
        }

        pub sift-narrower : (live : Waiting) (hint : Pair) (o' : List ℕ) (w' : Memory) (r : ℕ)
            → Sifts ws ranks root q w w' r (Settled Wanted q (left - 1) (record { equal = c.equal; pair = c.pair; bounds = k; live = live; hint = hint }) at o o' r)
            → Sifts ws ranks root q w w' r (TriedOne Wanted q (left - 1) value d at o o' r)
        sift-narrower live hint o' w' r s = record {
          most = s.most;
          memory = s.memory;
          page = λ x. one-narrower Wanted q left value d at o place ws ranks (λ v y. y.view) b br c e k (keeps root x) live hint o' r (s.page x);
        }

  module _ (left : ℕ) (d : Node) (at : ℕ) (o : List ℕ) (w : Memory) where
    -- After k of the values: what is put on the page for the others completes the page for all.
    abbrev pub Sifting : ℕ → ℕ → List ℕ → Memory → Type 0
    Sifting k r o' w' = Sifts ws ranks root q w w' r (Trying Wanted q left d at o k r o')

    pub sifting-next : (k r : ℕ) (o' : List ℕ) (w' : Memory) → k < 3 → Sifting k r o' w' → (z : ℕ) → z ≡ k → (r' : ℕ) (o'' : List ℕ) (w'' : Memory)
        → Sifts ws ranks root q w' w'' r' (TriedOne Wanted q left z d r o' o'' r') → Sifting (k + 1) r' o'' w''
    sifting-next k r o' w' h f z ez r' o'' w'' s = record {
      most = s.most;
      memory = λ x. s.memory (f.memory x);
      page = λ x. trying-next Wanted q left d at o k r o' h (f.page x) z ez r' o'' (s.page (f.memory x));
    }

    pub sifting-all : (k r : ℕ) (o' : List ℕ) (w' : Memory) → 3 ≤ k → Sifting k r o' w' → Sifts ws ranks root q w w' r (Tried Wanted q left 3 d at o o' r)
    sifting-all k r o' w' h f = record { most = f.most; memory = f.memory; page = λ x. trying-all Wanted q left d at o k r o' h (f.page x) }

  -- ---- the whole search
  -- Whether a pair is a view that stands, by the definitions.
  abbrev test : Book → Pair → Bool
  test b p = both (view b p) (not (dominated_by b (views b) p))

  module _ (t : ℕ) (c : Bounds) (after : Bool) (w : Memory) (b : Book) (from : Point) (a : Asked b from ws ranks root q t c w after q.point) where
    test-right : (p : Pair) → Lawful b p → p.taken ≡ t → Decides (test b p) (Wanted p)
    test-right p l e =
        let rooted = a.serves.rooted in
        let seen = view-same b ws q.rules rooted.packs p ranks rooted.ranked l in
        let firm = stands_same b ws q.rules ranks root rooted p in
        reworded (decides_and (reworded (decides-view b p) seen.1 seen.0) (reworded (decides_not (decides-dominated b p)) firm.1 firm.0))
        (λ h. record { view = h.0; stands = h.1 })
        (λ h. (h.view, h.stands))

    -- The page in the words of the meaning.
    all-part : (k : ℕ) (o o' : List ℕ) (r : ℕ) → Listed Wanted q t c after k o o' r → (ys : List Pair) × Page q.room k o o' ys r × PartOf b from t Wanted ys
    all-part k o o' r l = all_listed b from t a.has Wanted q a.serves.statements after a.begins (test b) test-right c (λ p x e v. a.bounded p x e v.view) k r o o' l

  module _ (t : ℕ) (c : Bounds) (after : Bool) (k : ℕ) (o o' : List ℕ) (w w' : Memory) (r : ℕ) where
    in_order : Sifts ws ranks root q w w' r (Listed Wanted q t c after k o o' r) → AllSifted ws ranks root q t c after k w w' o o' r
    in_order s = record { most = s.most; memory = s.memory; part = λ b from a. all-part t c after w b from a k o o' r (s.page a.right) }

    pub sift-settled : (d : Node) → Started t c after d → Sifts ws ranks root q w w' r (Settled Wanted q q.statements d k o o' r) → AllSifted ws ranks root q t c after k w w' o o' r
    sift-settled d e s = in_order (record { most = s.most; memory = s.memory; page = λ x. list-settled Wanted q t c after k o d e o' r (s.page x) })

  pub sift-none : (t : ℕ) (c : Bounds) (after : Bool) (k : ℕ) (o : List ℕ) (w : Memory) → k ≤ q.room → q.room ≤ k → AllSifted ws ranks root q t c after k w w o o k
  sift-none t c after k o w h l = in_order t c after k o o w w k (alone w k _ h (list_full Wanted q t c after k o h l))
