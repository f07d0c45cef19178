-- The loop of passes ends at the least stable pair.
-- Each pass stays below every stable pair, and a pass that adds nothing shows that all rules are stable.
use mathlib.Core.Path.{◌≡◌, ap}
use mathlib.Core.Bool.{Bool, true, false, not}
use mathlib.Core.Logic.{⊎_elim}
use mathlib.Core.List.{List}
use Prim.Native.Nat.{ℕ, ◌+◌, ◌<◌, ◌≤◌}
use native.Mathlib.Nat.{le_trans}
use native.Mathlib.Omega.{arith}
use borrow.Author.Count.{below_more}
use Rattle.logic.specs.Tests.{Decides}
use Rattle.sets.specs.declared.Pair.{Pair}
use Rattle.sets.specs.Sets.{Within, bit_of}
use Rattle.sets.specs.Pairs.{Sub, Off, join_of, meet_of, Atom}
use Rattle.sets.proofs.Words.{none-sub}
use Rattle.sets.proofs.Pairs.{sub_refl, sub_trans, join-sub, join-l, join-r, meet-r, off-of-meet}
use Rattle.masks.specs.declared.Masks.{Masks}
use Rattle.masks.specs.declared.Bounds.{Bounds}
use Rattle.masks.specs.Views.{masks_at, Fires}
use Rattle.masks.specs.Closures.{bare, Stable, Fired, Passed, Closure, Grown, Beneath}
use Rattle.masks.proofs.Booleans.{granted}
use Rattle.masks.proofs.Sums.{total, total-lt}

-- ---- one rule
module _ (r : Masks) (b : Bounds) (d : Pair) (w : Bool) (a : Decides w (Fires r b.lo d)) where
  pub fire-yes : w ≡ true → (x e : Pair) → x ≡ meet_of r.head b.hi → e ≡ join_of d x → Fired r b d e
  fire-yes ew x e ex ee =
      rw (ee, ex) (record {
        grow = join-l d _;
        below = λ t g h. join-sub g (let f = a.yes ew in h (record { needed = sub_trans f.needed g; unbarred = f.unbarred }));
        adds = λ y. join-r d _;
      })

  pub fire-no : w ≡ false → Fired r b d d
  fire-no ew = record { grow = sub_refl d; below = λ t g h. g; adds = λ x. absurd (a.no ew x) }

-- ---- one pass
pub pass-start : (ws : List ℕ) (b : Bounds) (c : Pair) → Passed ws 0 b c c
pass-start ws b c = record { grow = sub_refl c; below = λ t g h. g; adds = λ k h. absurd (omega arith) }

pub pass-turn : (ws : List ℕ) (k : ℕ) (b : Bounds) (c d e : Pair) (r : Masks) → Passed ws k b c d → r ≡ masks_at ws k → Fired r b d e → Passed ws (k + 1) b c e
pass-turn ws k b c d e r p q f0 =
    let f : Fired (masks_at ws k) b d e = rw q at f0 in
    record {
      grow = sub_trans p.grow f.grow;
      below = λ t g h. f.below t (p.below t g (λ j l. h j (omega arith))) (h k (omega arith));
      adds = below_more _ k (λ j h x. sub_trans (p.adds j h x) f.grow)
          (λ x. f.adds (record { needed = sub_trans x.needed p.grow; unbarred = x.unbarred }));
    }

pub pass-over : (ws : List ℕ) (k n : ℕ) (b : Bounds) (c d : Pair) → k ≤ n → n ≤ k → Passed ws k b c d → Passed ws n b c d
pass-over ws k n b c d h l p = let e : n ≡ k = omega arith in rw e p

-- ---- passes until nothing is added
-- The pair c is below every stable pair that has the exceptions of the upper bound.
abbrev pub Below : List ℕ → ℕ → Bounds → Pair → Type 0
Below ws n b c = (t : Pair) → Within b.hi.taken t.taken → Stable ws n b t → Sub c t

pub first_below : (ws : List ℕ) (n : ℕ) (b : Bounds) → Below ws n b (record { taken = b.hi.taken; held = 0; denied = 0 })
first_below ws n b t f g = record { held = none-sub t.held; denied = none-sub t.denied; taken = f }

-- Nothing is left to add.
pub closure-full : (ws : List ℕ) (n : ℕ) (b : Bounds) (c : Pair) (w : Bool) → Decides w (c ≡ b.hi) → w ≡ true → Within b.hi.taken c.taken → Below ws n b c → Closure ws n b c
closure-full ws n b c w q e s f = record { start = s; stable = λ k l x. rw (q.yes e) (meet-r _ _); least = f }

module _ (ws : List ℕ) (n : ℕ) (b : Bounds) (c d : Pair) (p : Passed ws n b c d) where
  pub next_start : Within b.hi.taken c.taken → Within b.hi.taken d.taken
  next_start f i = le_trans (f i) (p.grow.taken i)

  pub next-below : Below ws n b c → Below ws n b d
  next-below f t g h = p.below t (f t g h) h

  module _ (w : Bool) (q : Decides w (d ≡ c)) where
    pub closure-least : w ≡ true → Within b.hi.taken c.taken → Below ws n b c → Closure ws n b c
    closure-least e s f = let h : Sub d c = rw (q.yes e) (sub_refl c) in record { start = s; stable = λ k l x. sub_trans (p.adds k l x) h; least = f }

    pub pass-grows : w ≡ false → total c < total d
    pass-grows e = total-lt p.grow (λ s. q.no e (rw s))

-- ---- a sweep, within one pair
-- Nothing is added.
pub grown-none : (r : Masks) (v d : Pair) → Grown r v d d
grown-none r v d = record { below = λ c x y f. x }

-- The one head that v has is added where d has what the rule needs.
module _ (r : Masks) (v d : Pair) (w : Bool) (n : Decides w (Sub r.need d)) (ew : w ≡ true) (u : Bool) (q : Decides u (Fires r v v)) (eu : not u ≡ false) where
  pub grown-head : (o : Bool) (x e : Pair) → x ≡ meet_of r.head v → (o ≡ true → Atom x) → o ≡ true → e ≡ join_of d x → Grown r v d e
  grown-head o x e ex a eo ee =
      rw ee (record {
        below = λ c g h f. join-sub g (⊎_elim (λ (s : Sub x c). s)
            (λ (s : Off x c). absurd (f (record { needed = sub_trans (n.yes ew) g; unbarred = (granted q eu).unbarred }) (off-of-meet r.head v h (rw ex at s))))
            (a eo c));
      })

-- One rule more.
pub beneath-turn : (ws : List ℕ) (k : ℕ) (v d e : Pair) (r : Masks) → Beneath ws k v d → r ≡ masks_at ws k → Grown r v d e → Beneath ws (k + 1) v e
beneath-turn ws k v d e r f q g c t h m = g.below c (f c t h (λ j l. m j (omega arith))) h (rw q (m k (omega arith)))

pub beneath-start : (ws : List ℕ) (v : Pair) → Beneath ws 0 v (bare v)
beneath-start ws v c t h m = record { held = none-sub c.held; denied = none-sub c.denied; taken = λ i. let z = ap (λ (x : ℕ). bit_of x i) t in omega arith }

-- What is beneath the pairs closed under fewer rules is beneath those closed under more.
pub beneath-more : (ws : List ℕ) (k n : ℕ) (v d : Pair) → k ≤ n → Beneath ws k v d → Beneath ws n v d
beneath-more ws k n v d l f c t h m = f c t h (λ j i. m j (omega arith))

-- One rule more, from what is beneath the pairs closed under all of them.
pub beneath-again : (ws : List ℕ) (n k : ℕ) (v d e : Pair) (r : Masks) → k < n → Beneath ws n v d → r ≡ masks_at ws k → Grown r v d e → Beneath ws n v e
beneath-again ws n k v d e r l f q g c t h m = g.below c (f c t h m) h (rw q (m k l))
