-- Why the memory is right: which pair a view dominates depends on the exceptions that the pair takes and on the lines whose steps rank in it alone.
use mathlib.Core.Path.{◌≡◌, refl, sym, ap}
use mathlib.Core.Bool.{Bool, true, false, not}
use mathlib.Core.List.{List}
use mathlib.Core.Logic.{inl, ⊎_elim}
use Prim.Native.Nat.{ℕ, ◌^◌, ◌<◌, ◌≤◌}
use native.Mathlib.Omega.{arith}
use lib.Bits.{bit_and}
use lib.Dec.{eqb}
use lib.ListN.{get_or, replicate, get_or-replicate, get_or-eq_default, length-replicate}
use Rattle.logic.specs.Tests.{Decides}
use Rattle.logic.proofs.Decide.{clash, decides_eq, decides_not, reworded}
use Rattle.sets.specs.declared.Pair.{Pair}
use Rattle.sets.specs.Sets.{bit_of}
use Rattle.sets.proofs.Digits.{bit-over, bit-zero, lt-or-le}
use Rattle.sets.proofs.Words.{and_none}
use Rattle.masks.specs.declared.Bounds.{Bounds}
use Rattle.masks.specs.Views.{Counts, Step, rank, line, Leads, step, chain, Shared, MaskView}
use Rattle.masks.specs.Steps.{Of, Reached, Counting, Mates}
use Rattle.masks.proofs.Booleans.{decides-true, decides-false}
use Rattle.masks.proofs.Steps.{common, has, leads-more}
use Rattle.bounds.specs.Sound.{In}
use Rattle.admissible.specs.Admissible.{Stands}
use Rattle.std.specs.Prelude.{Option, Some, None}
use Rattle.superior.proofs.Lines.{one-and}
use Rattle.superior.specs.Superiors.{Used, Usable, Superior}
use native.Mathlib.Nat.{le_refl}
use Rattle.standing.specs.declared.memory.Row.{Row}
use Rattle.standing.specs.declared.memory.Memory.{Memory}
use Rattle.standing.specs.Standing.{ban_at, free_at, Ranking, Ranked, RightBan, RightFree, Right, Banned, Freed, KnownFree, Crosses, KnownBarred, Searched}

same_word : (a b j : ℕ) → a ≡ b → bit_of b j ≡ 1 → bit_of a j ≡ 1
same_word a b j e x = rw e x

-- ---- the lines whose steps rank
pub ranked-is : (ws : List ℕ) (n : ℕ) (v : Pair) (m u : ℕ) → Counting ws n v v m → Mates ws n m 32 u → Ranked ws n v u
ranked-is ws n v m u c q = record {
  only = λ j e. let k = q.only j e in (k.0, (k.1.0, k.1.1, (c.only k.1.0 k.1.2).1, k.1.3));
  all = λ j h r. q.all j h r.0 r.1 (c.all r.0 r.1 r.2) r.3;
}

-- ---- steps by one line or by another that is the same
module _ (ws : List ℕ) (n : ℕ) (ranks : List ℕ) where
  module _ (L K : ℕ → Type 0) (f : (a c : ℕ) → Step ws n ranks L a c → Step ws n ranks K a c) where
    leads-by : {a c : ℕ} → Leads ws n ranks L a c → Leads ws n ranks K a c
    leads-by {a} {c} (step s) = step (f a c s)
    leads-by {a} {c} (chain {d = d} s r) = chain (f a d s) (leads-by r)

  module _ (w v : Pair) where
    -- By lines that count in v and whose steps rank in w.
    abbrev Swapped : ℕ → Type 0
    Swapped j = Counts ws n v j × Ranking ws n w j

    swap_step : (a c : ℕ) → Step ws n ranks Swapped a c → Step ws n ranks (Shared ws n w v) a c
    swap_step a c (rank h e) = rank h e
    swap_step a c (line j h l x y) =
        let r = l.1 in
        line r.0 r.1 (r.2, (j, h, l.0, sym r.3)) (same_word _ _ a (ap (λ (p : Pair). p.held) r.3) x) (same_word _ _ c (ap (λ (p : Pair). p.denied) r.3) y)

    -- Domination may as well be said by the lines that count in v.
    pub swap : {a c : ℕ} → Leads ws n ranks Swapped a c → Leads ws n ranks (Shared ws n w v) a c
    swap = leads-by Swapped (Shared ws n w v) swap_step

  -- ---- what a row says
  module _ (root : Bounds) where
    -- A view within root whose exceptions and lines a ban has.
    pub ban-right : (w : Pair) → MaskView ws n ranks w → In root w → (m : ℕ) → Ranked ws n w m → RightBan ws n ranks root w.taken m
    ban-right w y i m k v b s = s.free w y i (record {
      upper = b.upper;
      lower = b.lower;
      upper_in = b.upper_in;
      lower_in = b.lower_in;
      leads = swap w v (leads-more ws n ranks (Used ws n v m) (Swapped w v) (λ j h q. (q.0, (k.only j q.1).1)) b.leads);
    })

    -- No view within root leads to t by lines of u.
    pub free-right : root.hi.taken < 2 ^ 64 → (t u : ℕ) (x : Option Pair) → Superior ws n ranks root t u u x → x ≡ None → RightFree ws n ranks root t u
    free-right h t u x q e v f g = record {
      free = λ w y i d. q.none e w y i d.upper (low w i d.upper d.upper_in) d.upper_in (record {
        lower = d.lower;
        member = has v.taken t d.lower f d.lower_in;
        leads = leads-more ws n ranks (Shared ws n w v) (Usable ws n root w u u) (λ j l s. let z = g j l s.1 in ((s.0, z), inl z)) d.leads;
      });
    }
      where
        low : (w : Pair) → In root w → (a : ℕ) → bit_of w.taken a ≡ 1 → a < 64
        low w i a z = ⊎_elim (λ (l : a < 64). l) (λ (l : 64 ≤ a). let p = i.hi.taken a in let o = bit-over root.hi.taken 64 a h l in absurd (omega arith)) (lt-or-le a 64)

    -- A view within root that leads by lines whose steps rank in v dominates it.
    pub found-falls : (v : Pair) (u : ℕ) → Ranked ws n v u → (x : Option Pair) → Superior ws n ranks root v.taken u u x → (w : Pair) → x ≡ Some w → Stands ws n ranks root v → ⊥
    found-falls v u k x q w e s =
        let f = q.found w e in
        let d = f.2.2 in
        s.free w f.0 f.1 (record {
          upper = f.2.0;
          lower = d.lower;
          upper_in = f.2.1;
          lower_in = d.member;
          leads = leads-more ws n ranks (Used ws n w u) (Shared ws n w v) (λ j h z. (z.0, (k.only j z.1).1)) d.leads;
        })

    module _ (mem : Memory) where
      -- Rows of zeros are right.
      pub nothing-remembered : ((k : ℕ) → ban_at mem k ≡ record { taken = 0; lines = 0 }) → ((k : ℕ) → free_at mem k ≡ record { taken = 0; lines = 0 }) → Right ws n ranks root mem
      nothing-remembered y z = record {
        bans = λ k h v b s. no_member _ (ap (λ (x : Row). x.taken) (y k)) b.upper b.upper_in;
        free = λ k h v f g. record { free = λ w y i d. no_member _ (ap (λ (x : Row). x.taken) (z k)) d.lower (has v.taken _ d.lower f d.lower_in) };
      }
        where
          no_member : (x : ℕ) → x ≡ 0 → (i : ℕ) → bit_of x i ≡ 1 → ⊥
          no_member x e i b = let q : bit_of 0 i ≡ 1 = rw e at b in let y = bit-zero i in omega arith

      module _ (v : Pair) (r : Right ws n ranks root mem) where
        pub known-stands : (u : ℕ) → Ranked ws n v u → KnownFree mem v.taken u → Stands ws n ranks root v
        known-stands u k f = r.free f.row f.small v f.has.exceptions (λ j h q. has u _ j f.has.lines (k.all j h q))

        pub known-falls : (m : ℕ) → Counting ws n v v m → KnownBarred ws n ranks mem m v.taken → Stands ws n ranks root v → ⊥
        known-falls m c f =
            let l = f.has.led in
            r.bans f.row f.small v (record {
              upper = l.begin;
              lower = f.has.lower;
              upper_in = l.member;
              lower_in = f.has.member;
              leads = leads-more ws n ranks (Of (bit_and m _)) (Used ws n v _) (λ j h o. let q = one-and m _ j o in ((c.only j q.0).1, q.1)) l.leads;
            })

-- The memory at the start is right.
same-row : (k : ℕ) (x : Row) (i : ℕ) → get_or (replicate k x) i x ≡ x
same-row k x i = ⊎_elim (λ h. get_or-replicate k i x x h) (λ h. get_or-eq_default (replicate k x) x (rw (length-replicate {A = Row} k x) h)) (lt-or-le i k)

pub nothing_yet : (ws : List ℕ) (n : ℕ) (ranks : List ℕ) (root : Bounds) (b f x y : ℕ)
    → Right ws n ranks root (record { bans = replicate b (record { taken = 0; lines = 0 }); free = replicate f (record { taken = 0; lines = 0 }); next_ban = x; next_free = y })
nothing_yet ws n ranks root b f x y = nothing-remembered ws n ranks root _ (same-row b _) (same-row f _)

-- ---- what is reached from a ban
module _ (ws : List ℕ) (n : ℕ) (ranks : List ℕ) (m t s : ℕ) where
  pub crosses-is : (r : ℕ) → r < 2 ^ 64 → Reached ws n ranks m t r → Decides (not (eqb (bit_and r s) 0)) (Crosses ws n ranks m t s)
  crosses-is r h f =
      reworded (decides_not (decides_eq (bit_and r s) 0))
      (λ k. let c = common r s k h in record { lower = c.0; member = c.2; led = f.only c.0 c.1 })
      (λ k z. let y = f.all k.lower k.led in let q = and_none r s z k.lower in let o = k.member in omega arith)

-- ---- a search, and the memory after it
module _ (ws : List ℕ) (n : ℕ) (ranks : List ℕ) (root : Bounds) (t u : ℕ) (mem : Memory) (x : Option Pair) (p : Superior ws n ranks root t u u x) (mem' : Memory) where
  pub searched-found : (w : Pair) → x ≡ Some w → (l : ℕ) → Ranked ws n w l → Banned mem mem' w.taken l → Searched ws n ranks root t u mem mem' false
  searched-found w e l k b =
      let f = p.found w e in
      record {
        right = λ r. b.right ws n ranks root r (ban-right ws n ranks root w f.0 f.1 l k);
        free = λ q. absurd (clash q);
        falls = λ q v et k s. found-falls ws n ranks root v u k x (rw et p) w e s;
      }

  pub searched-none : root.hi.taken < 2 ^ 64 → x ≡ None → Freed mem mem' t u → Searched ws n ranks root t u mem mem' true
  searched-none h e b =
      let f = free-right ws n ranks root h t u x p e in
      record { right = λ r. b.right ws n ranks root r f; free = λ q. f; falls = λ q. absurd (clash (sym q)) }

-- ---- the answer, and the memory after it
module _ (ws : List ℕ) (n : ℕ) (ranks : List ℕ) (root : Bounds) (mem : Memory) (v : Pair) where
  abbrev Answers : Memory → Bool → Type 0
  Answers mem' r = Right ws n ranks root mem → Right ws n ranks root mem' × Decides r (Stands ws n ranks root v)

  module _ (m u : ℕ) (c : Counting ws n v v m) (q : Mates ws n m 32 u) where
    is-ranked : Ranked ws n v u
    is-ranked = ranked-is ws n v m u c q

    pub answer-free : (b : Bool) → (b ≡ true → KnownFree mem v.taken u) → b ≡ true → Answers mem true
    answer-free b f e r = (r, decides-true (known-stands ws n ranks root mem v r u is-ranked (f e)))

    pub answer-barred : (b : Bool) → (b ≡ true → KnownBarred ws n ranks mem m v.taken) → b ≡ true → Answers mem false
    answer-barred b f e r = (r, decides-false (known-falls ws n ranks root mem v r m c (f e)))

    pub answer-searched : (mem' : Memory) (b : Bool) → Searched ws n ranks root v.taken u mem mem' b → Answers mem' b
    answer-searched mem' b s r = (s.right r, record { yes = λ e. s.free e v (λ i. le_refl _) is-ranked.all; no = λ e. s.falls e v refl is-ranked })
