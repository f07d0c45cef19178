-- Within bounds that have a view the lower end is the only set below: what the view has beside a smaller one would be closed.
-- For the bounds from v to v the sets below are the closed sets within v, so the test of a view is exact.
use mathlib.Core.Path.{◌≡◌, ap}
use Rattle.std.specs.Prelude.{Result, Ok, Err, is_ok}
use mathlib.Core.Bool.{Bool, true, false, not}
use mathlib.Core.List.{List}
use Prim.Native.Nat.{ℕ, ◌<◌}
use native.Mathlib.Omega.{arith}
use lib.Bits.{bit_and, and_zero_r, xor_zero_r}
use Rattle.logic.specs.Tests.{Decides}
use Rattle.logic.proofs.Decide.{reworded}
use Rattle.sets.specs.declared.Pair.{Pair}
use Rattle.sets.specs.Sets.{bit_of, Within, Apart, without}
use Rattle.sets.specs.Pairs.{Sub, Off, meet_of, minus_of}
use Rattle.sets.proofs.Digits.{bit-lt, bit-and, bit-without}
use Rattle.sets.proofs.Words.{zero_minus, and_none, none-and, none-sub}
use Rattle.sets.proofs.Pairs.{sub_refl, sub_trans, meet-sub, sub-minus, minus-sub, minus-off, off-sub, off-sym, sub-both}
use Rattle.masks.specs.declared.Bounds.{Bounds}
use Rattle.masks.specs.Views.{masks_at, Fires, MaskClosed, Level, Lined, Uncrossed, MaskView}
use Rattle.masks.specs.Closures.{only, Beneath, Swept}
use Rattle.masks.proofs.Booleans.{refused, granted, decides-true, decides-false}
use Rattle.bounds.specs.Sound.{In}
use Rattle.least.specs.Founded.{Lower, Founded}
use Rattle.least.specs.Rows.{under, Gathered}
use Rattle.least.specs.Search.{Alone}

-- ---- what is left of v without that part of lo that c lacks, word by word
off-left : (a lo c v : ℕ) → Apart a lo → Apart a (without v (without lo c)) → Apart a v
off-left a lo c v f g i =
    omega (arith, bit-without v (without lo c) i, bit-without lo c i, f i, g i, bit-lt a i, bit-lt v i, bit-lt lo i, bit-lt c i)

need-left : (a lo c v : ℕ) → Within a (without v (without lo c)) → Within (bit_and a lo) c
need-left a lo c v f i =
    omega (arith, bit-without v (without lo c) i, bit-without lo c i, bit-and a lo i, f i, bit-lt a i, bit-lt v i, bit-lt lo i, bit-lt c i)

all_left : (lo c v : ℕ) → Within lo v → Within v (without v (without lo c)) → Within lo c
all_left lo c v f g i =
    omega (arith, bit-without v (without lo c) i, bit-without lo c i, f i, g i, bit-lt v i, bit-lt lo i, bit-lt c i)

taken-left : (lo c v : ℕ) → Within lo c → without v (without lo c) ≡ v
taken-left lo c v f = rw (zero_minus lo c f, and_zero_r v) (xor_zero_r v)

-- ---- bounds that have a view
module _ {ws : List ℕ} {n : ℕ} {v : Pair} (closed : (k : ℕ) → k < n → Fires (masks_at ws k) v v → Off (masks_at ws k).head v → ⊥)
    (minimal : (c : Pair) → c.taken ≡ v.taken → Sub c v → MaskClosed ws n v c → Sub v c) (b : Bounds) (i : In b v) where
  whole-under : (c : Pair) → Lower ws n b c → Sub b.lo c
  unfolding minus_of meet_of
  whole-under c l =
      let u : Pair = minus_of b.lo c in
      let d : Pair = minus_of v u in
      let cd : Sub c d = sub-minus (sub_trans l.within i.lo) (off-sym (minus-off b.lo c)) in
      let g : Sub v d = minimal d (taken-left b.lo.taken c.taken v.taken l.taken) (minus-sub v u)
      (λ k h x o.
      let y : Fires (masks_at ws k) v v = record { needed = sub_trans x.needed (minus-sub v u); unbarred = x.unbarred } in
      l.closed k h (record {
        possible = record { needed = sub_trans y.needed i.hi; unbarred = off-sub (sub_refl _) i.lo x.unbarred };
        headed = λ q. closed k h y (record {
          held = off-left _ b.lo.held c.held v.held q.held o.held;
          denied = off-left _ b.lo.denied c.denied v.denied q.denied o.denied;
          taken = off-left _ b.lo.taken c.taken v.taken q.taken o.taken;
        });
        needed = record {
          held = need-left _ b.lo.held c.held v.held x.needed.held;
          denied = need-left _ b.lo.denied c.denied v.denied x.needed.denied;
          taken = need-left _ b.lo.taken c.taken v.taken x.needed.taken;
        };
      }) (off-sub (sub_refl _) cd o)) in
      record { held = all_left b.lo.held c.held v.held i.lo.held g.held; denied = all_left b.lo.denied c.denied v.denied i.lo.denied g.denied; taken = all_left b.lo.taken c.taken v.taken i.lo.taken g.taken }

  pub minimal-founded : Founded ws n b
  minimal-founded = record { whole = whole-under }

-- So no view is within bounds whose lower end is not the only set below.
pub view-founded : {ws : List ℕ} {n : ℕ} {ranks : List ℕ} {v : Pair} → MaskView ws n ranks v → (b : Bounds) → In b v → Founded ws n b
view-founded w b i = minimal-founded (λ k h. (w.rules k h).closed) w.minimal b i

-- ---- from the rows
pub founded-alone : (ws : List ℕ) (n : ℕ) (b : Bounds) (rs : List ℕ) (m : ℕ) (o : Bool) → Gathered ws n b rs m → Decides o (Alone rs m b.lo (under b)) → Decides o (Founded ws n b)
founded-alone ws n b rs m o g d =
    reworded d
    (λ a. record {
      whole = λ c l. let i : In (under b) c = record { lo = record { taken = l.taken; held = none-sub c.held; denied = none-sub c.denied }; hi = l.within } in
          a.all c (g.said c i l.closed) i;
    })
    (λ f. record { all = λ c h i. f.whole c (record { taken = i.lo.taken; within = i.hi; closed = g.meant c i h }) })

-- ---- the bounds from v to v
module _ (ws : List ℕ) (n : ℕ) (v : Pair) where
  pub closed-lower : (c : Pair) → c.taken ≡ v.taken → Sub c v → MaskClosed ws n v c → Lower ws n (only v) c
  closed-lower c e f h = record {
    taken = λ i. let z = ap (λ (x : ℕ). bit_of x i) e in omega arith;
    within = f;
    closed = λ k l a. h k l (record { needed = sub_trans (meet-sub (sub_refl _) a.possible.needed) a.needed; unbarred = a.possible.unbarred });
  }

-- ---- the whole test
module _ (ws : List ℕ) (n : ℕ) (ranks : List ℕ) (v : Pair) where
  pub view-clash : (bit_and v.held v.denied ≡ 0 → ⊥) → Decides false (MaskView ws n ranks v)
  view-clash f = decides-false (λ w. f (none-and _ _ w.coherent))

  pub view-level : (a : Bool) → Decides a (Level ranks v.taken) → not a ≡ true → Decides false (MaskView ws n ranks v)
  view-level a d e = decides-false (λ w. refused d e w.level)

  pub view-crossed : (a : Bool) → Decides a (Lined ws n → Uncrossed ws n ranks v) → not a ≡ true → Decides false (MaskView ws n ranks v)
  view-crossed a d e = decides-false (λ w. refused d e w.lined)

  -- The pair d is closed and within v, and it is not v.
  pub view-shrinks : (d : Pair) (u : Bool) → (u ≡ true → (d.taken ≡ v.taken) × Sub d v × MaskClosed ws n v d) → u ≡ true → (w : Bool) → Decides w (d ≡ v) → w ≡ false → Decides false (MaskView ws n ranks v)
  view-shrinks d u f e w dw q = decides-false (λ x. let h = f e in dw.no q (sub-both h.1 (x.minimal d h.0 h.1 h.2)))

  module _ (s : Result Pair Pair) (p : Swept ws n v s) where
    pub view-rules : (d : Pair) → s ≡ Err d → Decides false (MaskView ws n ranks v)
    view-rules d e = decides-false (λ w. p.exact.no (ap is_ok e) w.rules)

    module _ (a : Bool) (e0 : bit_and v.held v.denied ≡ 0) (da : Decides a (Level ranks v.taken)) (ea : not a ≡ false) (l : Lined ws n → Uncrossed ws n ranks v) (d₀ : Pair) (es : s ≡ Ok d₀) where
      -- Every closed pair within v has d: that is v.
      pub view-reached : (d : Pair) → Beneath ws n v d → (w : Bool) → Decides w (d ≡ v) → w ≡ true → Decides true (MaskView ws n ranks v)
      view-reached d f w dw e = decides-true (record {
        coherent = and_none _ _ e0;
        rules = p.exact.yes (ap is_ok es);
        minimal = λ c t g h. rw (dw.yes e) at (f c t g h);
        level = granted da ea;
        lined = l;
      })

      pub view-founded-is : (o : Bool) → Decides o (Founded ws n (only v)) → Decides o (MaskView ws n ranks v)
      view-founded-is o d =
          reworded d
          (λ f. record { coherent = and_none _ _ e0; rules = p.exact.yes (ap is_ok es); minimal = λ c t g h. f.whole c (closed-lower ws n v c t g h); level = granted da ea; lined = l })
          (λ w. view-founded w (only v) (record { lo = sub_refl v; hi = sub_refl v }))
