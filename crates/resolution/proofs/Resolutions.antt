-- The resolutions of the search, views that stand and are not exceeded within bounds that have the book's views, are the resolutions of the
-- definitions. The views within such bounds are the book's views, so both ask the same of the same views. Without Q lines these are the views whose
-- exceptions are admissible.
use mathlib.Core.Path.{◌≡◌, ◌∙◌}
use mathlib.Core.List.{List, []}
use mathlib.Core.Logic.Iff
use mathlib.Core.Logic.{◌↔◌, ⊎_elim}
use Prim.Native.Nat.{ℕ, suc, ◌<◌}
use native.Mathlib.Nat.{le_refl}
use lib.ListN.{length, get_or}
use borrow.Author.Tests.{eq-eqb}
use Rattle.logic.proofs.Decide.{holds-or-not, decides_eq}
use Rattle.sets.specs.declared.Pair.{Pair}
use Rattle.sets.specs.Sets.{bit_of}
use Rattle.sets.proofs.Pairs.{sub_trans}
use Rattle.sets.proofs.Words.{both_ways, contained-within, within-contained, member-suc}
use Rattle.meaning.specs.Books.{Book}
use Rattle.meaning.specs.Views.{View}
use Rattle.meaning.specs.Resolutions.{Dominated, Exceeded, Resolution}
use Rattle.meaning.proofs.Conditions.{plainly-dominates, dominates-plain, smaller-undominated}
use Rattle.masks.specs.declared.Bounds.{Bounds}
use Rattle.masks.specs.Views.{Lined, MaskView}
use Rattle.bounds.specs.Sound.{In, Propagated}
use Rattle.admissible.specs.Admissible.{Minimal, Undominated, Admissible, Stands, Unexceeded}
use Rattle.bridge.specs.Packed.{Packs}
use Rattle.bridge.specs.Ranks.{RanksOf}
use Rattle.bridge.specs.Roots.{root_of}
use Rattle.bridge.proofs.Levels.{cleared-same}
use Rattle.bridge.proofs.Lines.{unlined-plain, dominates-same}
use Rattle.bridge.proofs.Singles.{apart_of}
use Rattle.bridge.proofs.Views.{view-same}
use Rattle.bridge.proofs.Roots.{lawful-in, in-lawful}
use Rattle.resolution.specs.Rooted.{Rooted}

-- Bounds that propagation makes of the bounds of all lawful pairs have the book's views.
pub rooted : (b : Book) (ws : List ℕ) (n : ℕ) (ranks : List ℕ) (root : Bounds) → Packs b ws n → RanksOf b ranks → Propagated ws n ranks (root_of b) root → Rooted b ws n ranks root
rooted b ws n ranks root p o k = record {
  packs = p;
  ranked = o;
  holds = λ v w. let m = (view-same b ws n p v ranks o w.lawful).1 w in (m, k.keeps.kept v m (lawful-in b v w.lawful));
  only = λ v m i.
      let l = in-lawful b v (record { lo = sub_trans k.lo i.lo; hi = sub_trans i.hi k.hi }) m.coherent in
      (view-same b ws n p v ranks o l).0 m;
}

module _ (b : Book) (ws : List ℕ) (n : ℕ) (ranks : List ℕ) (root : Bounds) (rt : Rooted b ws n ranks root) where
  -- Verdict 4: no view dominates the pair.
  pub stands_same : (p : Pair) → Stands ws n ranks root p ↔ (Dominated b p → ⊥)
  stands_same p = (
    λ s d. let k = rt.holds d.other d.view in s.free d.other k.0 k.1 ((dominates-same b ws n rt.packs.lines ranks rt.ranked d.other p).1 d.dominates),
    λ z. record { free = λ w x i m. z (record { other = w; view = rt.only w x i; dominates = (dominates-same b ws n rt.packs.lines ranks rt.ranked w p).0 m }) },
  )

  -- Verdict 5: no undominated view has a proper subset of the pair's T.
  pub unexceeded-same : (p : Pair) → Unexceeded ws n ranks root p.taken ↔ (Exceeded b p → ⊥)
  unexceeded-same p = (
    λ m x. let q = x.other in
        let f = contained-within q.taken p.taken x.smaller.contained in
        let k = rt.holds q x.view in
        x.smaller.different (both_ways q.taken p.taken f (m.has q k.0 k.1 ((stands_same q).1 x.undominated) f)),
    λ z. record {
      has = λ v x i s f.
          ⊎_elim (λ (e : v.taken ≡ p.taken). λ (j : ℕ). rw e (le_refl (bit_of p.taken j)))
          (λ (d : v.taken ≡ p.taken → ⊥). absurd (z (record {
            other = v;
            view = rt.only v x i;
            undominated = (stands_same v).0 s;
            smaller = record { contained = within-contained v.taken p.taken f; different = d };
          }))) (holds-or-not (decides_eq v.taken p.taken));
    },
  )

  -- A view is a resolution exactly where it stands and no view that stands has a proper subset of its T.
  pub resolution-stands : (p : Pair) → (View b p × Stands ws n ranks root p × Unexceeded ws n ranks root p.taken) ↔ Resolution b p
  resolution-stands p = (
    λ h. record { view = h.0; undominated = (stands_same p).0 h.1; minimal = (unexceeded-same p).0 h.2 },
    λ r. (r.view, (stands_same p).1 r.undominated, (unexceeded-same p).1 r.minimal),
  )

  -- By P lines alone a view dominates every pair with an exception that one of its own outranks.
  pub outranked-dominated : (v p : Pair) → MaskView ws n ranks v → In root v → (a c : ℕ) → a < length ranks → bit_of v.taken a ≡ 1
      → bit_of (get_or ranks a 0) c ≡ 1 → bit_of p.taken c ≡ 1 → Dominated b p
  outranked-dominated v p x i a c h e r m = record {
    other = v;
    view = rt.only v x i;
    dominates = plainly-dominates b v p (record {
      upper = suc a;
      lower = suc c;
      upper_in = member-suc a v.taken ∙ eq-eqb (bit_of v.taken a) 1 e;
      lower_in = member-suc c p.taken ∙ eq-eqb (bit_of p.taken c) 1 m;
      outranks = (rt.ranked.outranked a c h).0 r;
    });
  }

  -- ---- words without lines: the set of exceptions alone decides
  module _ (u : Lined ws n → ⊥) where
    none : b.conditional ≡ []
    none = unlined-plain b ws n rt.packs.lines u

    pub undominated-same : (p : Pair) → Undominated ws n ranks root p.taken ↔ (Dominated b p → ⊥)
    undominated-same p = (
      λ f d. let q = d.other in
          let k = rt.holds q d.view in
          (cleared-same b ranks rt.ranked q.taken p.taken d.view.lawful.exceptions).0 (λ a h e. f.free a h q k.0 k.1 e) ((dominates-plain b none q p).0 d.dominates),
      λ z. record { free = λ a h v x i e. apart_of (get_or ranks a 0) p.taken (λ c r m. z (outranked-dominated v p x i a c h e r m)) },
    )

    pub undominated-stands : (p : Pair) → Undominated ws n ranks root p.taken ↔ Stands ws n ranks root p
    undominated-stands p = Iff.trans (undominated-same p) (Iff.symm (stands_same p))

    -- A view with a subset of the T of a pair that stands does stand.
    pub minimal-unexceeded : (p : Pair) → Stands ws n ranks root p → Minimal ws n ranks root p.taken ↔ Unexceeded ws n ranks root p.taken
    minimal-unexceeded p s = (
      λ m. record { has = λ v x i z f. m.has v x i f },
      λ m. record {
        has = λ v x i f. m.has v x i ((stands_same v).1 (λ d. (stands_same p).0 s (smaller-undominated b none p v (within-contained v.taken p.taken f) d))) f;
      },
    )

    pub minimal-same : (p : Pair) → (Dominated b p → ⊥) → Minimal ws n ranks root p.taken ↔ (Exceeded b p → ⊥)
    minimal-same p z = Iff.trans (minimal-unexceeded p ((stands_same p).1 z)) (unexceeded-same p)

    -- A view is a resolution exactly where its exceptions are admissible.
    pub resolution-same : (p : Pair) → (View b p × Admissible ws n ranks root p.taken) ↔ Resolution b p
    resolution-same p = (
      λ h. let s = (undominated-stands p).0 h.1.undominated in (resolution-stands p).0 (h.0, s, (minimal-unexceeded p s).0 h.1.minimal),
      λ r. let h = (resolution-stands p).1 r in (h.0, record { minimal = (minimal-unexceeded p h.1).1 h.2; undominated = (undominated-stands p).1 h.1 }),
    )
