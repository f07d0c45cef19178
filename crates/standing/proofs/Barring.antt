-- Why a ban may narrow bounds: a pair within them that takes what sure lines of the ban lead to is barred, and so is one in which a line leads on
-- from there to what is surely taken.
use mathlib.Core.Path.{◌≡◌, refl}
use mathlib.Core.List.{List}
use mathlib.Core.Logic.{⊎_elim}
use Prim.Native.Nat.{ℕ, ◌+◌, ◌^◌, ◌<◌, ◌≤◌}
use native.Mathlib.Omega.{arith}
use lib.Bits.{bit_and, bit_or}
use Rattle.sets.specs.declared.Pair.{Pair}
use Rattle.sets.specs.Sets.{bit_of, Apart, without}
use Rattle.sets.specs.Pairs.{Off}
use Rattle.sets.proofs.Digits.{bit-lt, bit-zero, bit-without, by_digits}
use Rattle.sets.proofs.Words.{none-off}
use Rattle.sets.proofs.Pairs.{join-l, join-sub, meet-l, meet-sub}
use Rattle.masks.specs.declared.Masks.{Masks}
use Rattle.masks.specs.declared.Bounds.{Bounds}
use Rattle.masks.specs.Views.{masks_at, Counts, from_at, to_at, Step, step, line, Leads}
use Rattle.masks.specs.Steps.{Of, Reached, Counting}
use Rattle.masks.proofs.Steps.{common, has, here_of, leads-more, longer}
use Rattle.bounds.specs.Sound.{In, Keeps, Idle, Propagated, out_of, narrow_of}
use Rattle.bounds.proofs.Steps.{in-out, keeps_then, keeps-less}
use Rattle.admissible.specs.Admissible.{Stands}
use Rattle.superior.specs.Superiors.{Used}
use Rattle.superior.proofs.Lines.{one-and, fires-more}
use Rattle.standing.specs.declared.memory.Memory.{Memory}
use Rattle.standing.specs.Standing.{ban_at, Right, Failing, Joins, ShutAt, Shut, Spared, StandingView, Unbanned}

-- ---- lines that do not count
-- A rule that has no exception of its own is met where its body fails.
pub fails-is : (r : Masks) (b o : Bounds) → r.need.taken ≡ 0 → Keeps (Idle r) b o → Keeps (Failing r) b o
fails-is r b o z k = keeps-less (λ v f. record { meets = record { closed = λ g. absurd (f.fails g); met = λ t. absurd (t (rw z (none-off v.taken))) }; fails = f.fails }) k

module _ (ws : List ℕ) (n m s t j : ℕ) (b : Bounds) where
  shut-own : (bit_of m j ≡ 0 → ⊥) → (bit_and (from_at ws n j) s ≡ 0 → ⊥) → (bit_and (to_at ws n j) t ≡ 0 → ⊥) → from_at ws n j < 2 ^ 64 → to_at ws n j < 2 ^ 64
      → (o : Bounds) → Keeps (Failing (masks_at ws (n + j))) b o → Keeps (ShutAt ws n m s t j) b o
  shut-own z x y hx hy o k =
      let p = common (from_at ws n j) s x hx in
      let q = common (to_at ws n j) t y hy in
      keeps-less (λ v f. record { fails = λ g. f.shut (one (bit_of m j) (bit-lt m j) z) (record { upper = p.0; lower = q.0; upper_in = p.2; lower_in = q.2; begins = p.1; ends = q.1 }) g }) k
    where
      one : (u : ℕ) → u < 2 → (u ≡ 0 → ⊥) → u ≡ 1
      one u h n = omega arith

  -- The line as it is read.
  pub shut-line : (l : Masks) → l ≡ masks_at ws (n + j) → (bit_of m j ≡ 0 → ⊥) → (bit_and l.head.held s ≡ 0 → ⊥) → (bit_and l.head.denied t ≡ 0 → ⊥) → l.head.held < 2 ^ 64 → l.head.denied < 2 ^ 64
      → (o : Bounds) → Keeps (Failing l) b o → Keeps (ShutAt ws n m s t j) b o
  shut-line l e z x y hx hy o k = shut-own z (rw e at x) (rw e at y) (rw e at hx) (rw e at hy) o (rw e at k)

pub shut-turn : (ws : List ℕ) (n m s t j : ℕ) (b o p : Bounds) → j < 32 → Keeps (Shut ws n m s t) b o → Keeps (ShutAt ws n m s t j) o p → Keeps (Shut ws n m s t) b p
shut-turn ws n m s t j b o p h k f = keeps_then k (keeps-less (λ v q. record { shut = q.shut j h }) f)

-- ---- one ban
module _ (ws : List ℕ) (n : ℕ) (ranks : List ℕ) (sure t l : ℕ) (b : Bounds) where
  module _ (f : ℕ) (rf : Reached ws n ranks (bit_and sure l) t f) where
    -- Sure lines of the ban are used in a pair in which the sure lines count.
    along : (v : Pair) → Spared ws n ranks sure t l v → {a c : ℕ} → Leads ws n ranks (Of (bit_and sure l)) a c → Leads ws n ranks (Used ws n v l) a c
    along v k = leads-more ws n ranks (Of (bit_and sure l)) (Used ws n v l) (λ j h o. let q = one-and sure l j o in (k.counts j q.0, q.1))

    reached-falls : (v : Pair) → Spared ws n ranks sure t l v → (c : ℕ) → bit_of f c ≡ 1 → bit_of v.taken c ≡ 1 → ⊥
    reached-falls v k c x y = let p = rf.only c x in k.free (record { upper = p.begin; lower = c; upper_in = p.member; lower_in = y; leads = along v k p.leads })

    -- What is surely taken is reached.
    pub ban-void : (o : Bounds) → (bit_and f b.lo.taken ≡ 0 → ⊥) → f < 2 ^ 64 → Keeps (Spared ws n ranks sure t l) b o
    ban-void o z h = let p = common f b.lo.taken z h in record { kept = λ v k i. absurd (reached-falls v k p.0 p.1 (has b.lo.taken v.taken p.0 i.lo.taken p.2)) }

    -- What is reached goes out; then no other line of the ban leads on to what is surely taken.
    pub ban-shut : (may : ℕ) (o p : Bounds) → o ≡ out_of b (record { taken = f; held = 0; denied = 0 })
        → Keeps (Shut ws n (without (bit_and may l) sure) (bit_or t f) b.lo.taken) o p → Keeps (Spared ws n ranks sure t l) b p
    ban-shut may o p e k = record { kept = λ v q i. k.kept v (record { shut = λ j h m g y. closed v q i j h m g y }) (rw e (in-out (outside v q) i)) }
      where
        off-none : (x : ℕ) → Apart x 0
        off-none x i = let z = bit-zero i in let y = bit-lt x i in omega arith

        apart : (x y : ℕ) → ((a : ℕ) → bit_of y a ≡ 1 → bit_of x a ≡ 1 → ⊥) → Apart x y
        apart x y g a = by_digits (λ u v. (v ≡ 1 → u ≡ 1 → ⊥) → u + v ≤ 1) (λ q. omega arith) (λ q. omega arith) (λ q. omega arith) (λ q. absurd (q refl refl)) (bit_of x a) (bit_of y a) (bit-lt x a) (bit-lt y a) (g a)

        outside : (v : Pair) → Spared ws n ranks sure t l v → Off v (record { taken = f; held = 0; denied = 0 })
        outside v q = record { held = off-none _; denied = off-none _; taken = apart v.taken f (reached-falls v q) }

        of-ban : (j : ℕ) → bit_of (without (bit_and may l) sure) j ≡ 1 → bit_of l j ≡ 1
        of-ban j x = let d = bit-without (bit_and may l) sure j in let y = bit-lt (bit_and may l) j in (one-and may l j (omega arith)).1

        closed : (v : Pair) → Spared ws n ranks sure t l v → In b v → (j : ℕ) → j < 32 → bit_of (without (bit_and may l) sure) j ≡ 1 → Joins ws n j (bit_or t f) b.lo.taken → Counts ws n v j → ⊥
        closed v q i j h m g y =
            let last : Step ws n ranks (Used ws n v l) g.upper g.lower = line j h (y, of-ban j m) g.begins g.ends in
            let end-in = has b.lo.taken v.taken g.lower i.lo.taken g.lower_in in
            ⊎_elim (λ x. q.free (record { upper = g.upper; lower = g.lower; upper_in = x; lower_in = end-in; leads = step last }))
            (λ x. let p = rf.only g.upper x in q.free (record { upper = p.begin; lower = g.lower; upper_in = p.member; lower_in = end-in; leads = longer ws n ranks (Used ws n v l) (along v q p.leads) last }))
            (here_of t f g.upper g.upper_in)

-- ---- all bans
module _ (ws : List ℕ) (n : ℕ) (ranks : List ℕ) (mem : Memory) (b : Bounds) where
  -- What is left has every pair within b that stands.
  abbrev pub Leaves : Bounds → Type 0
  Leaves o = (root : Bounds) → Right ws n ranks root mem → Keeps (Stands ws n ranks root) b o

  pub leaves_all : Leaves b
  leaves_all root r = record { kept = λ v k i. i }

  pub leaves-turn : (sure k : ℕ) → Counting ws n b.hi b.lo sure → k < 32 → (o p : Bounds) → Leaves o → Keeps (Spared ws n ranks sure (ban_at mem k).taken (ban_at mem k).lines) o p → Leaves p
  leaves-turn sure k c h o p f g root r = record {
    kept = λ v s i. g.kept v (record { counts = λ j e. fires-more _ _ _ _ _ i.hi i.lo (c.only j e).1; free = λ q. r.bans k h v q s }) ((f root r).kept v s i);
  }

-- ---- bans and rules in turn
module _ (ws : List ℕ) (n : ℕ) (ranks : List ℕ) (mem : Memory) (b : Bounds) where
  abbrev pub Spares : Bounds → Type 0
  Spares o = (root : Bounds) → Right ws n ranks root mem → Keeps (StandingView ws n ranks root) b o

  pub spares-turn : (o p q : Bounds) → Spares o → Leaves ws n ranks mem o p → Propagated ws n ranks p q → Spares q
  spares-turn o p q f g h root r = record { kept = λ v k i. h.keeps.kept v k.view ((g root r).kept v k.stands ((f root r).kept v k i)) }

  pub unbanned-is : (o p : Bounds) → Spares o → p ≡ narrow_of b o → Unbanned ws n ranks mem b p
  unfolding narrow_of
  unbanned-is o p f e = rw e (record {
    keeps = λ root r. record { kept = λ v k i. let q = (f root r).kept v k i in record { lo = join-sub i.lo q.lo; hi = meet-sub i.hi q.hi } };
    lo = join-l _ _;
    hi = meet-l _ _;
  })
