-- Each step keeps every view: why, by the fact about a view that it uses.
-- A pair within the bounds stays within them when what it has goes in, or what it lacks goes out.
use mathlib.Core.Path.{◌≡◌}
use mathlib.Core.Bool.{Bool, true, not}
use mathlib.Core.List.{List}
use mathlib.Core.Logic.{⊎_elim}
use Prim.Native.Nat.{ℕ, ◌^◌, ◌<◌}
use native.Mathlib.Nat.{le_refl, le_trans}
use native.Mathlib.Omega.{arith}
use lib.Bits.{bit_and, bit_or}
use lib.ListN.{length, get_or}
use Rattle.logic.specs.Tests.{Decides}
use Rattle.logic.proofs.Decide.{decides_eq, holds-or-not}
use Rattle.sets.specs.declared.Pair.{Pair}
use Rattle.sets.specs.Sets.{bit_of, Apart}
use Rattle.sets.specs.Pairs.{Sub, Off, join_of, meet_of, minus_of, Atom}
use Rattle.sets.proofs.Digits.{bit-lt}
use Rattle.sets.proofs.Words as N
use Rattle.sets.proofs.Words.{none-off, off-is, or-zero, none-and, single-has, single}
use Rattle.sets.proofs.Pairs.{sub_refl, sub_trans, join-sub, join-l, meet-sub, meet-l, sub-minus, sub-of-minus, off-sub, off-sym, off-of-meet}
use Rattle.masks.specs.declared.Masks.{Masks}
use Rattle.masks.specs.declared.Bounds.{Bounds}
use Rattle.masks.specs.Views.{masks_at, Fires, Meets, Lined, MaskView}
use Rattle.masks.specs.Closures.{Closure}
use Rattle.masks.specs.Steps.{Counting, Reached}
use Rattle.masks.proofs.Steps.{has, leads-more, leads-unranked}
use Rattle.masks.proofs.Booleans.{refused}
use Rattle.masks.proofs.Facts.{bounded}
use Rattle.bounds.specs.Singles.{one_of, Picked}
use Rattle.bounds.specs.Sound.{In, Keeps, into_of, out_of, narrow_of, Firing, Idle, Coherent, Levelled, Unlinked, LevelledAt, Ruled, Propagated}

-- ---- steps one after the other
pub keeps_same : {P : Pair → Type 0} (b : Bounds) → Keeps P b b
keeps_same b = record { kept = λ v p x. x }

pub keeps_then : {P : Pair → Type 0} {b o p : Bounds} → Keeps P b o → Keeps P o p → Keeps P b p
keeps_then f g = record { kept = λ v q x. g.kept v q (f.kept v q x) }

-- What keeps all pairs with P keeps all pairs with Q, if Q says more.
pub keeps-less : {P Q : Pair → Type 0} {b o : Bounds} → ((v : Pair) → Q v → P v) → Keeps P b o → Keeps Q b o
keeps-less f k = record { kept = λ v q x. k.kept v (f v q) x }

module _ {ws : List ℕ} {n : ℕ} {ranks : List ℕ} {b o : Bounds} where
  pub by-rule : (k : ℕ) (r : Masks) → k < n → r ≡ masks_at ws k → Keeps (Meets r) b o → Keeps (MaskView ws n ranks) b o
  by-rule k r h e = keeps-less (λ v w. rw e (w.rules k h))

  pub by-coherence : Keeps Coherent b o → Keeps (MaskView ws n ranks) b o
  by-coherence = keeps-less (λ v w. record { apart = w.coherent })

  pub by_level : Keeps (Levelled ranks) b o → Keeps (MaskView ws n ranks) b o
  by_level = keeps-less (λ v w. record { level = w.level })

  pub by_lines : Keeps (Unlinked ws n ranks) b o → Keeps (MaskView ws n ranks) b o
  by_lines = keeps-less (λ v w. record { lined = w.lined })

  pub by-rules : Keeps (Ruled ws n) b o → Keeps (MaskView ws n ranks) b o
  by-rules = keeps-less (λ v w. record { coherent = w.coherent; rules = w.rules; minimal = w.minimal; level = λ a h. absurd (omega arith); lined = λ l a c x p. w.lined l a c x (leads-unranked ws n ranks _ p) })

pub propagated : (ws : List ℕ) (n : ℕ) (ranks : List ℕ) (b o p : Bounds) → Keeps (MaskView ws n ranks) b o → p ≡ narrow_of b o → Propagated ws n ranks b p
unfolding narrow_of
propagated ws n ranks b o p f e =
    rw e (record {
      keeps = record { kept = λ v w x. let y = f.kept v w x in record { lo = join-sub x.lo y.lo; hi = meet-sub x.hi y.hi } };
      lo = join-l _ _;
      hi = meet-l _ _;
    })

-- ---- moves
pub in-into : {b : Bounds} {m v : Pair} → Sub m v → In b v → In (into_of b m) v
unfolding into_of
in-into f x = record { lo = join-sub x.lo f; hi = x.hi }

pub in-out : {b : Bounds} {m v : Pair} → Off v m → In b v → In (out_of b m) v
unfolding out_of
in-out f x = record { lo = x.lo; hi = sub-minus x.hi f }

pub into-is : (b : Bounds) (m l : Pair) → l ≡ join_of b.lo m → ◌≡◌ {A = Bounds} (record { lo = l; hi = b.hi }) (into_of b m)
unfolding into_of
into-is b m l e = rw e

pub out-is : (b : Bounds) (m h : Pair) → h ≡ minus_of b.hi m → ◌≡◌ {A = Bounds} (record { lo = b.lo; hi = h }) (out_of b m)
unfolding out_of
out-is b m h e = rw e

pub narrow-is : (b o : Bounds) (l h : Pair) → l ≡ join_of b.lo o.lo → h ≡ meet_of b.hi o.hi → ◌≡◌ {A = Bounds} (record { lo = l; hi = h }) (narrow_of b o)
unfolding narrow_of
narrow-is b o l h el eh = rw (el, eh)

off-none : (v : ℕ) → Apart v 0
off-none v i = let q = none-off v i in omega arith

-- Exceptions that the pair does not take go out.
out-taken : (b : Bounds) (v : Pair) (t : ℕ) → Apart t v.taken → In b v → In (out_of b (record { taken = t; held = 0; denied = 0 })) v
out-taken b v t f x = in-out (record { held = off-none v.held; denied = off-none v.denied; taken = λ i. let q = f i in omega arith }) x

-- ---- one rule
-- A rule whose body a pair within the bounds satisfies can fire within them; one that surely fires does so for each pair.
pub can : {r : Masks} {b : Bounds} {v : Pair} → In b v → Fires r v v → Fires r b.lo b.hi
can x f = record { needed = sub_trans f.needed x.hi; unbarred = off-sub (sub_refl _) x.lo f.unbarred }

sure : {r : Masks} {b : Bounds} {v : Pair} → In b v → Fires r b.hi b.lo → Fires r v v
sure x f = record { needed = sub_trans f.needed x.lo; unbarred = off-sub (sub_refl _) x.hi f.unbarred }

module _ (r : Masks) (b : Bounds) where
  -- No head is possible.
  -- No head is possible.
  pub forced-none : (m : Pair) (o : Bounds) → m ≡ meet_of r.head b.hi → bit_or (bit_or m.held m.denied) m.taken ≡ 0 → Keeps (Firing r) b o
  forced-none m o em z = record { kept = λ v k x. absurd (k.meets.closed k.fires (off-of-meet r.head b.hi x.hi (rw em at (empty v)))) }
    where
      empty : (v : Pair) → Off m v
      empty v =
          let p = or-zero (bit_or m.held m.denied) m.taken z in
          let q = or-zero m.held m.denied p.0 in
          record { held = rw q.0 (none-off v.held); denied = rw q.1 (none-off v.denied); taken = rw p.1 (none-off v.taken) }

  pub forced-body : (o p : Bounds) → o ≡ out_of b r.bar → p ≡ into_of o r.need → Keeps (Firing r) b p
  forced-body o p eo ep = rw (ep, eo) (record { kept = λ v k x. let f = k.fires in in-into f.needed (in-out (off-sym f.unbarred) x) })

  -- One head alone is possible.
  pub forced-head : (o p q : Bounds) (w : Bool) (m : Pair) → m ≡ meet_of r.head b.hi → (w ≡ true → Atom m) → w ≡ true
      → o ≡ out_of b r.bar → p ≡ into_of o r.need → q ≡ into_of p m → Keeps (Firing r) b q
  forced-head o p q w m em a ew eo ep eq =
      rw eq (record { kept = λ v k x. in-into (had v k x) ((forced-body o p eo ep).kept v k x) })
    where
      had : (v : Pair) → Firing r v → In b v → Sub m v
      had v k x = ⊎_elim (λ (s : Sub m v). s) (λ (s : Off m v). absurd (k.meets.closed k.fires (off-of-meet r.head b.hi x.hi (rw em at s)))) (a ew v)

  pub idle-untaken : (o : Bounds) → o ≡ out_of b (record { taken = r.need.taken; held = 0; denied = 0 }) → Keeps (Idle r) b o
  idle-untaken o e = rw e (record { kept = λ v k x. out-taken b v r.need.taken (not_taken v k) x })
    where
      not_taken : (v : Pair) → Idle r v → Apart r.need.taken v.taken
      not_taken v k = ⊎_elim (λ o. o) (λ c. absurd (k.fails (k.meets.met c))) (holds-or-not (off-is r.need.taken v.taken))

  module _ (x m : Pair) (at : Picked x m) (w : Bool) (dw : Decides w (Sub x m)) (ew : w ≡ true) (a : Bool) (ea : a ≡ true) (o : Bounds) where
    -- No barred entry is possible, and all needed entries but one are sure.
    pub false-needed : Decides a (Off r.bar b.hi) → x ≡ minus_of r.need b.lo → o ≡ out_of b m → Keeps (Idle r) b o
    false-needed da ex eo =
        rw eo (record {
          kept = λ v k i. ⊎_elim
              (λ s. absurd (k.fails (record { needed = sub-of-minus _ _ (sub_trans (rw ex at (dw.yes ew)) s) i.lo; unbarred = off-sub (sub_refl _) i.hi (da.yes ea) })))
              (λ s. in-out (off-sym s) i) (at.atom v);
        })

    -- All needed entries are sure, and one barred entry alone is possible.
    pub false-barred : Decides a (Sub r.need b.lo) → x ≡ meet_of r.bar b.hi → o ≡ into_of b m → Keeps (Idle r) b o
    false-barred da ex eo =
        rw eo (record {
          kept = λ v k i. ⊎_elim
              (λ s. in-into s i)
              (λ s. absurd (k.fails (record { needed = sub_trans (da.yes ea) i.lo; unbarred = off-of-meet _ _ i.hi (off-sub (rw ex at (dw.yes ew)) (sub_refl v) s) })))
              (at.atom v);
        })

  module _ (o : Bounds) where
    pub step-fails : (w : Bool) → Decides w (Fires r b.lo b.hi) → not w ≡ true → Keeps (Idle r) b o → Keeps (Meets r) b o
    step-fails w d e g = record { kept = λ v k x. g.kept v (record { meets = k; fails = λ f. refused d e (can x f) }) x }

    pub step-taken : (bit_and r.need.taken b.lo.taken ≡ 0 → ⊥) → Keeps (Firing r) b o → Keeps (Meets r) b o
    step-taken n g = record {
      kept = λ v k x. g.kept v (record { meets = k; fires = k.met (λ f. n (none-and _ _ (N.off-sub _ _ _ _ (λ i. le_refl _) x.lo.taken f))) }) x;
    }

    pub step-sure : (w : Bool) → Decides w (Fires r b.hi b.lo) → w ≡ true → Keeps (Firing r) b o → Keeps (Meets r) b o
    step-sure w d e g = record { kept = λ v k x. g.kept v (record { meets = k; fires = sure x (d.yes e) }) x }

    pub step-head : (w : Bool) → Decides w (Off r.head b.hi) → w ≡ true → Keeps (Idle r) b o → Keeps (Meets r) b o
    step-head w d e g = record { kept = λ v k x. g.kept v (record { meets = k; fails = λ f. k.closed f (off-sub (sub_refl _) x.hi (d.yes e)) }) x }

-- ---- (e) and (f)
pub cohere : (b o : Bounds) → o ≡ out_of b (record { taken = 0; held = b.lo.denied; denied = b.lo.held }) → Keeps Coherent b o
cohere b o e =
    rw e (record {
      kept = λ v h x. in-out (record {
        held = N.off-sub _ _ _ _ (λ i. le_refl _) x.lo.denied h.apart;
        denied = λ i. let q = h.apart i in let r = x.lo.held i in omega arith;
        taken = off-none v.taken;
      }) x;
    })

module _ (rank a : ℕ) (b o : Bounds) where
  pub level-above : bit_of b.lo.taken a ≡ 1 → o ≡ out_of b (record { taken = rank; held = 0; denied = 0 }) → Keeps (LevelledAt rank a) b o
  level-above h e =
      rw e (record { kept = λ v l x. out-taken b v rank (l.level (let g = x.lo.taken a in let z = bit-lt v.taken a in omega arith)) x })

  pub level-below : (m : Pair) → (bit_and rank b.lo.taken ≡ 0 → ⊥) → m ≡ one_of 2 a → o ≡ out_of b m → Keeps (LevelledAt rank a) b o
  unfolding one_of
  level-below m n em e = rw (e, em) (record { kept = λ v l x. out-taken b v (2 ^ a) (avoid v l x) x })
    where
      avoid : (v : Pair) → LevelledAt rank a v → In b v → Apart (2 ^ a) v.taken
      avoid v l x =
          ⊎_elim (λ s. absurd (n (none-and _ _ (N.off-sub _ _ _ _ (λ i. le_refl _) x.lo.taken (l.level (single-has a v.taken s))))))
          (λ s. s) (single a v.taken)

pub levels-turn : (ranks : List ℕ) (k : ℕ) (b o p : Bounds) → k < length ranks → Keeps (Levelled ranks) b o → Keeps (LevelledAt (get_or ranks k 0) k) o p → Keeps (Levelled ranks) b p
levels-turn ranks k b o p h f g = keeps_then f (keeps-less (λ v l. record { level = l.level k h }) g)

-- ---- the bound by a closure
pub upper-bound : (ws : List ℕ) (n : ℕ) (b : Bounds) (c h : Pair) → Closure ws n b c → h ≡ meet_of b.hi c → Keeps (Ruled ws n) b (record { lo = b.lo; hi = h })
upper-bound ws n b c h cl e =
    rw e (record {
      kept = λ v w x. record {
        lo = x.lo;
        hi = meet-sub x.hi (bounded w b.lo b.hi c x.lo x.hi (λ i. le_trans (x.hi.taken i) (cl.start i)) cl.stable);
      };
    })

-- ---- preferences under a condition
module _ (ws : List ℕ) (n : ℕ) (ranks : List ℕ) (b : Bounds) where
  -- Lines that surely count lead in every pair.
  pub unlinked : Lined ws n → (m r : ℕ) → Counting ws n b.hi b.lo m → Reached ws n ranks m b.lo.taken r
      → (o : Bounds) → o ≡ out_of b (record { taken = r; held = 0; denied = 0 }) → Keeps (Unlinked ws n ranks) b o
  unlinked l m r c q o e = rw e (record { kept = λ v u x. out-taken b v r (apart v u x) x })
    where
      apart : (v : Pair) → Unlinked ws n ranks v → In b v → Apart r v.taken
      apart v u x k =
          let y = bit-lt r k in let z = bit-lt v.taken k in
          ⊎_elim (λ (e : bit_of r k ≡ 1).
          let t = q.only k e in
          ⊎_elim (λ (f : bit_of v.taken k ≡ 1).
          absurd (u.lined l t.begin k (has _ _ t.begin x.lo.taken t.member) (leads-more ws n ranks _ _ (λ j i w. sure x (c.only j w).1) t.leads) f))
          (λ f. omega (arith, less (bit_of v.taken k) z f)) (holds-or-not (decides_eq (bit_of v.taken k) 1)))
          (λ e. omega (arith, less (bit_of r k) y e)) (holds-or-not (decides_eq (bit_of r k) 1))
        where
          less : (u : ℕ) → u < 2 → (u ≡ 1 → ⊥) → u ≡ 0
          less u h n = omega arith
