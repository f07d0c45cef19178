-- Why the search by lines is right. A line that counts in a view within bounds may count within them, and one that surely counts counts in it;
-- a view that satisfies a line's body is within the bounds where it surely counts, and one that does not leads by the other lines.
use mathlib.Core.Path.{◌≡◌, refl, sym, ◌∙◌}
use mathlib.Core.Bool.{Bool, true, not}
use mathlib.Core.List.{List}
use mathlib.Core.Logic.{◌⊎◌, inl, inr, ⊎_elim}
use Prim.Native.Nat.{ℕ, ◌+◌, ◌*◌, ◌%◌, ◌^◌, ◌<◌, ◌≤◌}
use native.Mathlib.Nat.{eq-or-lt_of_le}
use lib.Dec.{eqb}
use borrow.Author.Tests.{eqb-true, eq-eqb}
use native.Mathlib.Omega.{arith}
use lib.Bits.{bit_and, bit_or, and_le_l}
use Rattle.logic.specs.Tests.{Decides}
use Rattle.logic.proofs.Decide.{decides_eq, decides_not, holds-or-not, reworded}
use Rattle.sets.specs.declared.Pair.{Pair}
use Rattle.sets.specs.Sets.{bit_of, Apart, without, Lowest}
use Rattle.sets.specs.Pairs.{Sub, join_of, minus_of}
use Rattle.sets.proofs.Digits.{bit-and, bit-or, bit-lt, bit-without, bit-zero, bit-single, by_digits, lt-or-le, shifted}
use Rattle.sets.proofs.Lowest.{lowest-some}
use Rattle.sets.proofs.Words as W
use Rattle.sets.proofs.Words.{and_none, none-sub, single-has, sub-le}
use Rattle.sets.proofs.Pairs.{sub_refl, sub_trans, join-l, join-r, minus-sub, minus-off, off-sub, off-sym}
use Rattle.masks.specs.declared.Masks.{Masks}
use Rattle.masks.specs.declared.Bounds.{Bounds}
use Rattle.masks.specs.Views.{masks_at, Fires, MaskView}
use Rattle.bounds.specs.Sound.{In, Propagated, into_of, out_of}
use Rattle.bounds.specs.Singles.{one_of}
use Rattle.bounds.proofs.Singles.{has-place}
use Rattle.bounds.proofs.Steps.{in-into, in-out}
use Rattle.masks.specs.Steps.{Of, Reached, Chosen, Counting}
use Rattle.masks.proofs.Facts.{fires-or-not}
use Rattle.masks.proofs.Steps.{common, has, leads-more}
use Rattle.probe.specs.Probes.{Probed}
use Rattle.std.specs.Prelude.{Option, Some, None}
use Rattle.superior.specs.Superiors.{ToMember, Used, Usable, Superior, Source, Taking, TakingAt, Left, Without, Hopeless, Picks}

-- ---- bodies
pub fires-more : (r : Masks) (v c u d : Pair) → Sub u v → Sub c d → Fires r v c → Fires r u d
fires-more r v c u d f g h = record { needed = sub_trans h.needed g; unbarred = off-sub (sub_refl _) f h.unbarred }

-- The bounds c where the rule's body holds.
assumed-lo : (c d : Bounds) (r : Masks) → d ≡ into_of (out_of c r.bar) r.need → Sub (join_of c.lo r.need) d.lo
unfolding into_of out_of
assumed-lo c d r e = rw e (sub_refl _)

assumed-hi : (c d : Bounds) (r : Masks) → d ≡ into_of (out_of c r.bar) r.need → Sub d.hi (minus_of c.hi r.bar)
unfolding into_of out_of
assumed-hi c d r e = rw e (sub_refl _)

assumed-in : (c d : Bounds) (r : Masks) → d ≡ into_of (out_of c r.bar) r.need → (w : Pair) → Fires r w w → In c w → In d w
assumed-in c d r e w f i = rw e (in-into f.needed (in-out (off-sym f.unbarred) i))

pub and_one : (a b j : ℕ) → bit_of a j ≡ 1 → bit_of b j ≡ 1 → bit_of (bit_and a b) j ≡ 1
and_one a b j x y = let e = bit-and a b j in omega arith

pub one-and : (a b j : ℕ) → bit_of (bit_and a b) j ≡ 1 → (bit_of a j ≡ 1) × (bit_of b j ≡ 1)
one-and a b j x = let e = bit-and a b j in let y = bit-lt a j in let z = bit-lt b j in (omega arith, omega arith)

pub or-one : (a b j : ℕ) → (bit_of a j ≡ 1) ⊎ (bit_of b j ≡ 1) → bit_of (bit_or a b) j ≡ 1
or-one a b j h =
    let e = bit-or a b j in let y = bit-lt a j in let z = bit-lt b j in
    ⊎_elim (λ (x : bit_of a j ≡ 1). omega arith) (λ (x : bit_of b j ≡ 1). omega arith) h

to-more : (ws : List ℕ) (n : ℕ) (ranks : List ℕ) (L K : ℕ → Type 0) (t a : ℕ) → ((j : ℕ) → j < 32 → L j → K j) → ToMember ws n ranks L t a → ToMember ws n ranks K t a
to-more ws n ranks L K t a f h = record { lower = h.lower; member = h.member; leads = leads-more ws n ranks L K f h.leads }

module _ (ws : List ℕ) (n : ℕ) (ranks : List ℕ) (b : Bounds) (t usable free : ℕ) where
  module _ (s0 m0 : ℕ) (cs : Counting ws n b.hi b.lo s0) (cm : Counting ws n b.lo b.hi m0) where
    abbrev sure : ℕ
    sure = bit_and s0 usable

    abbrev may : ℕ
    may = bit_and m0 free

    -- What is used is sure, or may count and is free.
    usable-is : (w : Pair) → In b w → (j : ℕ) → j < 32 → Usable ws n b w usable free j → (bit_of sure j ≡ 1) ⊎ ((bit_of may j ≡ 1) × (bit_of free j ≡ 1))
    usable-is w i j h u =
        ⊎_elim (λ o. inr (and_one m0 free j (cm.all j h (fires-more _ _ _ _ _ i.lo i.hi u.0.0)) o, o))
        (λ f. inl (and_one s0 usable j (cs.all j h f) u.0.1)) u.1

    -- Lines that surely count are used by every view within the bounds.
    sure-used : (w : Pair) → In b w → (j : ℕ) → bit_of sure j ≡ 1 → Used ws n w usable j
    sure-used w i j e = let o = one-and s0 usable j e in (fires-more _ _ _ _ _ i.hi i.lo (cs.only j o.0).1, o.1)

    -- Nothing that may be used leads to t.
    pub none-far : (r : ℕ) → Reached ws n ranks (bit_or sure may) b.hi.taken r → bit_and r t ≡ 0 → Superior ws n ranks b t usable free None
    none-far r f z = record {
      found = λ w e. absurd (let z : ◌≡◌ {A = ℕ} 0 1 = cc in omega arith);
      none = λ e w v i a below x h.
          let l = leads-more ws n ranks (Usable ws n b w usable free) (Of (bit_or sure may)) (λ j g u. or-one sure may j (⊎_elim (λ y. inl y) (λ y. inr y.0) (usable-is w i j g u))) h.leads in
          let p = i.hi.taken a in let q = bit-lt b.hi.taken a in
          let y = f.all h.lower (record { begin = a; member = omega arith; leads = l }) in
          let k = and_none r t z h.lower in let o = h.member in omega arith;
    }

    pub none-hopeless : (r : Bool) → Hopeless ws n ranks b (bit_or sure may) t r → r ≡ true → Superior ws n ranks b t usable free None
    none-hopeless r f q = record {
      found = λ w e. absurd (let z : ◌≡◌ {A = ℕ} 0 1 = cc in omega arith);
      none = λ e w v i a g x h.
          f.none q w v i a g x (to-more ws n ranks (Usable ws n b w usable free) (Of (bit_or sure may)) t a (λ j k u. or-one sure may j (⊎_elim (λ y. inl y) (λ y. inr y.0) (usable-is w i j k u))) h);
    }

    module _ (s : ℕ) (so : Chosen (Source ws n ranks sure b.hi.taken t) 64 s) (r : Option Pair) (ta : Taking ws n ranks b s 64 r) where
      -- A view that takes a source.
      pub found-source : (w : Pair) → r ≡ Some w → Superior ws n ranks b t usable free (Some w)
      found-source w e = record {
        found = λ u q. let y : w ≡ u = cc in
            let f = ta.found w e in
            rw (← y) (f.0, f.1, (f.2.0, f.2.1, to-more ws n ranks (Of sure) (Used ws n w usable) t f.2.0 (λ j h o. sure-used w f.1 j o) (so.only f.2.0 f.2.2).1.1));
        none = λ q. absurd (let z : ◌≡◌ {A = ℕ} 0 1 = cc in omega arith);
      }

      module _ (e : r ≡ None) where
        -- A view within the bounds takes no source.
        no_source : (w : Pair) → MaskView ws n ranks w → In b w → (a : ℕ) → bit_of w.taken a ≡ 1 → bit_of s a ≡ 1 → ⊥
        no_source w v i a x y = ta.none e w v i a (so.only a y).0 x y

        -- All lines that may be used are sure.
        pub none-sure : without may sure ≡ 0 → Superior ws n ranks b t usable free None
        none-sure z = record {
          found = λ w q. absurd (let z : ◌≡◌ {A = ℕ} 0 1 = cc in omega arith);
          none = λ q w v i a g x h.
              no_source w v i a x (so.all a g (
                has w.taken b.hi.taken a i.hi.taken x,
                to-more ws n ranks (Usable ws n b w usable free) (Of sure) t a
                    (λ j k u. ⊎_elim (λ y. y) (λ y. rest j y.0) (usable-is w i j k u)) h,
              ));
        }
          where
            rest : (j : ℕ) → bit_of may j ≡ 1 → bit_of sure j ≡ 1
            rest j y = let d = bit-without may sure j in let k = bit-zero j in let p = bit-lt sure j in let o : bit_of (without may sure) j ≡ bit_of 0 j = rw z in omega arith

        -- The two halves: c has every view within b, inner those of them that satisfy the body of line j.
        module _ (j : ℕ) (less : ℕ) (jl : (i : ℕ) → bit_of free i ≡ 1 → (i ≡ j → ⊥) → bit_of less i ≡ 1)
            (c d inner : Bounds) (lo : Sub b.lo c.lo) (hi : Sub c.hi b.hi)
            (into-c : (w : Pair) → MaskView ws n ranks w → In b w → ((a : ℕ) → bit_of w.taken a ≡ 1 → bit_of s a ≡ 1 → ⊥) → In c w)
            (ed : d ≡ into_of (out_of c (masks_at ws (n + j)).bar) (masks_at ws (n + j)).need) (pr : Propagated ws n ranks d inner) where
          d-lo : Sub (join_of c.lo (masks_at ws (n + j)).need) d.lo
          d-lo = assumed-lo c d (masks_at ws (n + j)) ed

          d-hi : Sub d.hi (minus_of c.hi (masks_at ws (n + j)).bar)
          d-hi = assumed-hi c d (masks_at ws (n + j)) ed

          inner-lo : Sub c.lo inner.lo
          inner-lo = sub_trans (sub_trans (join-l _ _) d-lo) pr.lo

          inner-hi : Sub inner.hi c.hi
          inner-hi = sub_trans pr.hi (sub_trans d-hi (minus-sub _ _))

          -- Within inner line j surely counts.
          sure-j : Fires (masks_at ws (n + j)) inner.hi inner.lo
          sure-j = record {
            needed = sub_trans (sub_trans (join-r _ _) d-lo) pr.lo;
            unbarred = off-sym (off-sub (sub_trans pr.hi d-hi) (sub_refl _) (minus-off _ _));
          }

          in_inner : (w : Pair) → MaskView ws n ranks w → In c w → Fires (masks_at ws (n + j)) w w → In inner w
          in_inner w v i f = pr.keeps.kept w v (assumed-in c d (masks_at ws (n + j)) ed w f i)

          from_inner : (w : Pair) → In inner w → In b w
          from_inner w i = record { lo = sub_trans lo (sub_trans inner-lo i.lo); hi = sub_trans i.hi (sub_trans inner-hi hi) }

          pub found-inner : (y : Option Pair) → Superior ws n ranks inner t usable less y → (w : Pair) → y ≡ Some w → Superior ws n ranks b t usable free (Some w)
          found-inner y f w g = record {
            found = λ u q. let x = f.found u (g ∙ q) in (x.0, from_inner u x.1, x.2);
            none = λ q. absurd (let z : ◌≡◌ {A = ℕ} 0 1 = cc in omega arith);
          }

          pub both_halves : (z x : Option Pair) → Superior ws n ranks inner t usable less z → z ≡ None → Superior ws n ranks c t usable less x → Superior ws n ranks b t usable free x
          both_halves z x f nil g = record {
            found = λ u q. let y = g.found u q in (y.0, record { lo = sub_trans lo y.1.lo; hi = sub_trans y.1.hi hi }, y.2);
            none = λ q w v i a below y h.
                let k = into-c w v i (λ a o p. no_source w v i a o p) in
                ⊎_elim
                (λ fire. f.none nil w v (in_inner w v k fire) a below y
                (to-more ws n ranks (Usable ws n b w usable free) (Usable ws n inner w usable less) t a (λ l z u. (u.0, ⊎_elim (λ o. used-in l o) (λ o. inr (fires-more _ _ _ _ _ (sub_trans inner-hi hi) (sub_trans lo inner-lo) o)) u.1)) h))
                (λ fails. g.none q w v k a below y
                (to-more ws n ranks (Usable ws n b w usable free) (Usable ws n c w usable less) t a (λ l z u. (u.0, ⊎_elim (λ o. inl (jl l o (λ p. fails (rw p at u.0.0)))) (λ o. inr (fires-more _ _ _ _ _ hi lo o)) u.1)) h))
                (fires-or-not (masks_at ws (n + j)) w w);
          }
            where
              used-in : (l : ℕ) → bit_of free l ≡ 1 → (bit_of less l ≡ 1) ⊎ Fires (masks_at ws (n + l)) inner.hi inner.lo
              used-in l o = ⊎_elim (λ (p : l ≡ j). inr (rw p sure-j)) (λ (p : l ≡ j → ⊥). inl (jl l o p)) (holds-or-not (decides_eq l j))

-- ---- sources
module _ (ws : List ℕ) (n : ℕ) (ranks : List ℕ) (m among t : ℕ) where
  pub source-decides : (a r : ℕ) → a < 64 → (bit_of among a ≡ 0 → ⊥) → r < 2 ^ 64 → Reached ws n ranks m (1 * 2 ^ a % 2 ^ 64) r → Decides (not (eqb (bit_and r t) 0)) (Source ws n ranks m among t a)
  source-decides a r l z h f =
      reworded (decides_not (decides_eq (bit_and r t) 0))
      (λ k. let c = common r t k h in let g = f.only c.0 c.1 in
      (one (bit_of among a) (bit-lt among a) z, record { lower = c.0; member = c.2; leads = rw (alone g.begin g.member) g.leads }))
      (λ s z. let k = s.1 in let y = f.all k.lower (record { begin = a; member = own; leads = k.leads }) in let q = and_none r t z k.lower in let o = k.member in omega arith)
    where
      is_one : 1 * 2 ^ a % 2 ^ 64 ≡ 2 ^ a
      is_one = shifted a l

      own : bit_of (1 * 2 ^ a % 2 ^ 64) a ≡ 1
      own = rw is_one (eqb-true (bit_of (2 ^ a) a) 1 (bit-single a a ∙ eq-eqb a a refl))

      alone : (x : ℕ) → bit_of (1 * 2 ^ a % 2 ^ 64) x ≡ 1 → a ≡ x
      alone x e = eqb-true a x (sym (bit-single a x) ∙ eq-eqb _ 1 (rw is_one at e))

      one : (u : ℕ) → u < 2 → (u ≡ 0 → ⊥) → u ≡ 1
      one u h n = omega arith

-- ---- views that take a source
module _ (ws : List ℕ) (n : ℕ) (ranks : List ℕ) (b : Bounds) (s : ℕ) where
  pub taking-probed : (a : ℕ) (m : Pair) → m ≡ one_of 2 a → (c : Bounds) → c ≡ into_of b m → (r : Option Pair) → Probed ws n ranks c r → (bit_of s a ≡ 0 → ⊥) → TakingAt ws n ranks b s a r
  unfolding into_of one_of
  taking-probed a m em c ec r p z = record {
    found = λ w e.
        let f = rw (ec, em) at (p.found w e) in
        (f.0, record { lo = sub_trans (join-l _ _) f.1.lo; hi = f.1.hi }, single-has a w.taken (sub_trans (join-r _ _) f.1.lo).taken, one (bit_of s a) (bit-lt s a) z);
    none = λ e w v i x y. p.none e w v (rw (ec, em) (in-into (record { held = none-sub _; denied = none-sub _; taken = has-place a w.taken x }) i));
  }
    where
      one : (u : ℕ) → u < 2 → (u ≡ 0 → ⊥) → u ≡ 1
      one u h n = omega arith

  -- None takes one of the first k.
  abbrev pub NoneTo : ℕ → Type 0
  NoneTo k = (w : Pair) → MaskView ws n ranks w → In b w → (a : ℕ) → a < k → bit_of w.taken a ≡ 1 → bit_of s a ≡ 1 → ⊥

  pub none_first : NoneTo 0
  none_first w v i a h = absurd (omega arith)

  pub none-turn : (k : ℕ) (r : Option Pair) → TakingAt ws n ranks b s k r → r ≡ None → NoneTo k → NoneTo (k + 1)
  none-turn k r t e f w v i a h x y = ⊎_elim (λ (q : a ≡ k). t.none e w v i (rw q at x) (rw q at y)) (λ (q : a < k). f w v i a q x y) (eq-or-lt_of_le (omega arith))

  pub taking-found : (k : ℕ) (r : Option Pair) → TakingAt ws n ranks b s k r → (w : Pair) → r ≡ Some w → Taking ws n ranks b s 64 (Some w)
  taking-found k r t w e = record {
    found = λ u q. let y : w ≡ u = cc in let f = t.found w e in rw (← y) (f.0, f.1, (k, f.2, f.3));
    none = λ q. absurd (let z : ◌≡◌ {A = ℕ} 0 1 = cc in omega arith);
  }

-- ---- the halves
pub left_is : (ws : List ℕ) (n : ℕ) (ranks : List ℕ) (b : Bounds) (s : ℕ) (c o : Bounds) → c ≡ out_of b (record { taken = s; held = 0; denied = 0 }) → Propagated ws n ranks c o → Left ws n ranks b s o
unfolding out_of
left_is ws n ranks b s c o e p = record {
  lo = let f : Sub b.lo c.lo = rw e (sub_refl _) in sub_trans f p.lo;
  hi = let f : Sub c.hi b.hi = rw e (minus-sub _ _) in sub_trans p.hi f;
  keeps = λ w v i f. p.keeps.kept w v (rw e (in-out (record { held = off-none _; denied = off-none _; taken = apart w.taken s f }) i));
}
  where
    off-none : (x : ℕ) → Apart x 0
    off-none x k = let z = bit-zero k in let y = bit-lt x k in omega arith

    apart : (x y : ℕ) → ((a : ℕ) → bit_of x a ≡ 1 → bit_of y a ≡ 1 → ⊥) → Apart x y
    apart x y f a = by_digits (λ u v. (u ≡ 1 → v ≡ 1 → ⊥) → u + v ≤ 1) (λ g. omega arith) (λ g. omega arith) (λ g. omega arith) (λ g. absurd (g refl refl)) (bit_of x a) (bit_of y a) (bit-lt x a) (bit-lt y a) (f a)

-- The set without a member.
pub without_is : (free j r : ℕ) → r ≡ without free (2 ^ j) → Without free j r
without_is free j r er = rw er (record { others = others; less = less })
  where
    others : (i : ℕ) → bit_of free i ≡ 1 → (i ≡ j → ⊥) → bit_of (without free (2 ^ j)) i ≡ 1
    others i e f =
        let d = bit-without free (2 ^ j) i in
        let q = bit-lt (2 ^ j) i in
        ⊎_elim (λ (z : bit_of (2 ^ j) i ≡ 1). absurd (f (sym (eqb-true j i (sym (bit-single j i) ∙ eq-eqb _ 1 z)))))
        (λ (z : bit_of (2 ^ j) i ≡ 1 → ⊥). let k = zero (bit_of (2 ^ j) i) q z in omega arith) (holds-or-not (decides_eq (bit_of (2 ^ j) i) 1))
      where
        zero : (u : ℕ) → u < 2 → (u ≡ 1 → ⊥) → u ≡ 0
        zero u h n = omega arith

    less : bit_of free j ≡ 1 → without free (2 ^ j) < free
    less e =
        let own : bit_of (2 ^ j) j ≡ 1 = eqb-true (bit_of (2 ^ j) j) 1 (bit-single j j ∙ eq-eqb j j refl) in
        let d = bit-without free (2 ^ j) j in
        let w = sub-le (without free (2 ^ j)) free (W.minus-sub free (2 ^ j)) in
        ⊎_elim (λ z. z) (λ (z : free ≤ without free (2 ^ j)). let q : without free (2 ^ j) ≡ free = omega arith in let y : bit_of (without free (2 ^ j)) j ≡ bit_of free j = rw q in absurd (omega arith))
        (lt-or-le (without free (2 ^ j)) free)

-- A line that may count and is not sure is one of the first 32, and may be used.
pub low-line : (ws : List ℕ) (n : ℕ) (v c : Pair) (m0 free sure k : ℕ) → Counting ws n v c m0 → (without (bit_and m0 free) sure ≡ 0 → ⊥)
    → Picks (without (bit_and m0 free) sure) k → (k < 32) × (bit_of free k ≡ 1)
low-line ws n v c m0 free sure k cm z l =
    let e = l.member z in
    let d = bit-without (bit_and m0 free) sure k in
    let b = bit-lt (bit_and m0 free) k in
    let o = one-and m0 free k (omega arith) in
    ((cm.only k o.0).0, o.1)

-- The lowest member of a word is a member.
low-member : (x k : ℕ) → x < 2 ^ 64 → k ≤ 64 → Lowest x k → (x ≡ 0 → ⊥) → bit_of x k ≡ 1
low-member x k h m l z =
    let p : 0 < x = ⊎_elim (λ (y : 0 < x). y) (λ (y : x ≤ 0). absurd (z (omega arith))) (lt-or-le 0 x) in
    l.member (lowest-some x k l p h m)

pub picks-low : (m k : ℕ) → m < 2 ^ 64 → k ≤ 64 → Lowest m k → Picks m k
picks-low m k h g l = record { member = low-member m k h g l }

pub picks-near : (m e k : ℕ) → m < 2 ^ 64 → k ≤ 64 → (bit_and m e ≡ 0 → ⊥) → Lowest (bit_and m e) k → Picks m k
picks-near m e k h g z l = record { member = λ y. (one-and m e k (low-member (bit_and m e) k (let w = and_le_l m e in omega arith) g l z)).0 }

-- ---- no hope
