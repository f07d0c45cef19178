-- The test of a view is exact: it is true of the views and of nothing else.
-- Each `return` decides its proposition from what the tests before it decided; the loops keep what holds of the rules below k.
use Rattle.std.specs.Prelude.{Ok, Err}
use mathlib.Core.Path.{◌≡◌}
use mathlib.Core.Bool.{Bool, true, false, not}
use mathlib.Core.List.{List}
use mathlib.Core.Logic.{inl, inr, ⊎_elim}
use Prim.Native.Nat.{ℕ, ◌+◌, ◌<◌, ◌≤◌}
use native.Mathlib.Omega.{arith}
use lib.Bits.{bit_and, bit_or}
use lib.Dec.{eqb}
use lib.ListN.{length, get_or}
use borrow.Author.Count.{below_more}
use Rattle.logic.specs.Tests.{Decides}
use Rattle.logic.proofs.Decide.{decides_not, holds-or-not, reworded}
use Rattle.sets.specs.declared.Pair.{Pair}
use Rattle.sets.specs.Sets.{bit_of, Apart}
use Rattle.sets.specs.Pairs.{Sub, Off, Atom}
use Rattle.sets.proofs.Digits.{bit-lt}
use Rattle.sets.proofs.Words.{decide, or-zero, off-is, none-sub}
use Rattle.sets.proofs.Pairs.{atom-held, atom-denied}
use Rattle.masks.specs.declared.Masks.{Masks}
use Rattle.masks.specs.Views.{masks_at, Fires, Constraint, Meets, MeetsAll, Level}
use Rattle.masks.specs.Closures.{Lone, Beneath, Swept}
use Rattle.masks.proofs.Booleans.{refused, granted, decides-true, decides-false}
use Rattle.masks.proofs.Closures.{beneath-more}

-- ---- one rule
module _ (r : Masks) (v c : Pair) (w : Bool) (d : Decides w (Sub r.need c)) where
  pub fires-no : not w ≡ true → Decides false (Fires r v c)
  fires-no e = decides-false (λ x. refused d e x.needed)

  pub fires-rest : (o : Bool) → not w ≡ false → Decides o (Off r.bar v) → Decides o (Fires r v c)
  fires-rest o e f = reworded f (λ x. record { needed = granted d e; unbarred = x }) (λ x. x.unbarred)

pub constraint-is : (r : Masks) → Decides (eqb (bit_or r.head.held r.head.denied) 0) (Constraint r)
constraint-is r =
    decide _ (Constraint r) (λ e. let p = or-zero r.head.held r.head.denied e in record { held = p.0; denied = p.1 })
    (λ b. rw (b.held, b.denied))

module _ (r : Masks) (v : Pair) (w : Bool) (d : Decides w (Fires r v v)) where
  pub meets-head : (p : Bool) → w ≡ true → Decides p (Off r.head v) → Decides (not p) (Meets r v)
  meets-head p e h = reworded (decides_not h) (λ x. record { closed = λ y. x; met = λ c. d.yes e }) (λ x. x.closed (d.yes e))

  pub meets-idle : w ≡ false → Decides (eqb (bit_and r.need.taken v.taken) 0) (Meets r v)
  meets-idle e =
      reworded (off-is r.need.taken v.taken)
      (λ o. record { closed = λ y. absurd (d.no e y); met = λ c. absurd (c o) })
      untaken
    where
      untaken : Meets r v → Apart r.need.taken v.taken
      untaken x = ⊎_elim (λ o. o) (λ c. absurd (d.no e (x.met c))) (holds-or-not (off-is r.need.taken v.taken))

-- ---- all rules
module _ (ws : List ℕ) (k : ℕ) (v : Pair) where
  module _ (r : Masks) (w : Bool) (e : r ≡ masks_at ws k) (m : Decides w (Meets r v)) where
    pub rules-turn : MeetsAll ws k v → not w ≡ false → MeetsAll ws (k + 1) v
    rules-turn f q = below_more _ k f (rw e at (granted m q))

    pub rules-lost : (n : ℕ) (d : Pair) → k < n → Beneath ws k v d → not w ≡ true → Swept ws n v (Err d)
    rules-lost n d h b q = record {
      exact = decides-false (λ f. refused m q (rw e (f k h)));
      below = λ x o. cc;
      short = λ x o. let e : d ≡ x = cc in rw e at (beneath-more ws k n v d (omega arith) b);
    }

  pub rules-won : (n : ℕ) (d : Pair) → k ≤ n → n ≤ k → MeetsAll ws k v → Beneath ws k v d → Swept ws n v (Ok d)
  rules-won n d l h f b = record { exact = decides-true (λ j i. f j (omega arith)); below = λ x o. let e : d ≡ x = cc in rw e at (beneath-more ws k n v d l b); short = λ x o. cc }

-- ---- one member
pub lone-held : (x : Pair) → x.taken ≡ 0 → x.denied ≡ 0 → Lone x.held → Atom x
lone-held x t d (inl e) v = inl (record { held = rw e (none-sub v.held); denied = rw d (none-sub v.denied); taken = rw t (none-sub v.taken) })
lone-held x t d (inr (k, e)) v = ⊎_elim (λ f. inl (record { held = rw e f.held; denied = rw d f.denied; taken = rw t f.taken })) (λ f. inr (record { held = rw e f.held; denied = rw d f.denied; taken = rw t f.taken })) (atom-held k v)

pub lone-denied : (x : Pair) → x.taken ≡ 0 → x.held ≡ 0 → Lone x.denied → Atom x
lone-denied x t d (inl e) v = inl (record { held = rw d (none-sub v.held); denied = rw e (none-sub v.denied); taken = rw t (none-sub v.taken) })
lone-denied x t d (inr (k, e)) v = ⊎_elim (λ f. inl (record { held = rw d f.held; denied = rw e f.denied; taken = rw t f.taken })) (λ f. inr (record { held = rw d f.held; denied = rw e f.denied; taken = rw t f.taken })) (atom-denied k v)

-- ---- preferences
pub level-idle : (rank a taken : ℕ) → bit_of taken a ≡ 0 → Decides true (bit_of taken a ≡ 1 → Apart rank taken)
level-idle rank a taken e = decides-true (λ q. absurd (omega arith))

pub level-rest : (rank a taken : ℕ) → (bit_of taken a ≡ 0 → ⊥) → Decides (eqb (bit_and rank taken) 0) (bit_of taken a ≡ 1 → Apart rank taken)
level-rest rank a taken n = reworded (off-is rank taken) (λ o q. o) (λ f. f (one (bit_of taken a) (bit-lt taken a) n))
  where
    one : (x : ℕ) → x < 2 → (x ≡ 0 → ⊥) → x ≡ 1
    one x l n = omega arith

-- The first k exceptions outrank no taken one, where they are taken.
abbrev pub LevelTo : List ℕ → ℕ → ℕ → Type 0
LevelTo ranks k taken = (a : ℕ) → a < k → bit_of taken a ≡ 1 → Apart (get_or ranks a 0) taken

module _ (ranks : List ℕ) (k taken : ℕ) where
  module _ (w : Bool) (d : Decides w (bit_of taken k ≡ 1 → Apart (get_or ranks k 0) taken)) where
    pub level-turn : LevelTo ranks k taken → not w ≡ false → LevelTo ranks (k + 1) taken
    level-turn f q = below_more _ k f (granted d q)

    pub level-lost : k < length ranks → not w ≡ true → Decides false (Level ranks taken)
    level-lost h q = decides-false (λ f. refused d q (f k h))

  pub level-won : length ranks ≤ k → LevelTo ranks k taken → Decides true (Level ranks taken)
  level-won h f = decides-true (λ j l. f j (omega arith))
