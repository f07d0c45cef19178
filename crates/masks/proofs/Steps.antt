-- What is reached grows by single steps from what steps lead to; a set that no step leaves has all that steps lead to.
use mathlib.Core.Path.{◌≡◌, refl, sym, ◌∙◌}
use mathlib.Core.Bool.{Bool, true, false, not}
use mathlib.Core.List.{List, []}
use mathlib.Core.Logic.{◌⊎◌, inl, inr, ⊎_elim}
use Prim.Native.Nat.{ℕ, ◌+◌, ◌-◌, ◌*◌, ◌%◌, ◌^◌, ◌<◌, ◌≤◌}
use native.Mathlib.Nat.{le_refl, le_trans, eq-or-lt_of_le}
use native.Mathlib.Omega.{arith}
use lib.Dec.{eqb}
use borrow.Author.Tests.{eqb-true, eqb-false, eq-eqb, not-true, not-false}
use lib.Bits.{bit_and, bit_or, and_le_l, and_comm}
use lib.Count.{count_trailing_zeros, trailing_le}
use lib.ListN.{length, get_or}
use Rattle.logic.specs.Tests.{Decides}
use Rattle.logic.proofs.Decide.{holds-or-not, decides_eq}
use Rattle.masks.proofs.Booleans.{refused, granted, decides-true, decides-false}
use Rattle.sets.specs.Sets.{bit_of, Within}
use Rattle.sets.proofs.Digits.{bit-and, bit-or, bit-lt, bit-zero, bit-single, lt-or-le, shifted}
use Rattle.sets.proofs.Lowest.{lowest-is, lowest-some}
use Rattle.sets.proofs.Words.{and_none, or_l, or_r, sub-le}
use Rattle.masks.specs.declared.Masks.{Masks}
use Rattle.sets.specs.declared.Pair.{Pair}
use Rattle.masks.specs.Views.{Alike, masks_at, from_at, to_at, Counts, Lined, Step, rank, line, Leads, step, chain, Uncrossed}
use Rattle.masks.specs.Steps.{Of, LedTo, Reached, Here, Grown, ByRanks, ByLine, ByLines, Passed, Chosen, Passing, Mates, MatesOf}

-- ---- words
-- Two words that are not apart have a member in common.
pub common : (a b : ℕ) → (bit_and a b ≡ 0 → ⊥) → a < 2 ^ 64 → (k : ℕ) × (bit_of a k ≡ 1) × (bit_of b k ≡ 1)
common a b n h =
    let l = and_le_l a b in
    let p : 0 < bit_and a b = ⊎_elim (λ (z : 0 < bit_and a b). z) (λ (z : bit_and a b ≤ 0). absurd (n (omega arith))) (lt-or-le 0 (bit_and a b)) in
    let k = count_trailing_zeros 64 (bit_and a b) in
    let q = lowest-is (bit_and a b) in
    let f = q.member (lowest-some (bit_and a b) k q p (omega arith) (trailing_le 64 (bit_and a b))) in
    let e = bit-and a b k in let x = bit-lt a k in let y = bit-lt b k in
    (k, omega arith, omega arith)

pub common-right : (a b : ℕ) → (bit_and a b ≡ 0 → ⊥) → b < 2 ^ 64 → (k : ℕ) × (bit_of a k ≡ 1) × (bit_of b k ≡ 1)
common-right a b n h = let s = common b a (λ e. n (and_comm a b ∙ e)) h in (s.0, s.2, s.1)

pub here_of : (t o x : ℕ) → bit_of (bit_or t o) x ≡ 1 → Here t o x
here_of t o x e =
    let q = bit-or t o x in let y = bit-lt t x in let z = bit-lt o x in
    ⊎_elim (λ k. inl k) (λ n. inr (omega (arith, one (bit_of t x) y n))) (holds-or-not (decides_eq (bit_of t x) 1))
  where
    one : (u : ℕ) → u < 2 → (u ≡ 1 → ⊥) → u ≡ 0
    one u l n = omega arith

of-here : (t o x : ℕ) → Here t o x → bit_of (bit_or t o) x ≡ 1
of-here t o x h =
    let q = bit-or t o x in let y = bit-lt t x in let z = bit-lt o x in
    ⊎_elim (λ (k : bit_of t x ≡ 1). omega arith) (λ (k : bit_of o x ≡ 1). omega arith) h

pub has : (a b c : ℕ) → Within a b → bit_of a c ≡ 1 → bit_of b c ≡ 1
has a b c f e = let x = f c in let y = bit-lt b c in omega arith

here-more : (t o p x : ℕ) → Within o p → Here t o x → Here t p x
here-more t o p x f h = ⊎_elim (λ k. inl k) (λ k. inr (has o p x f k)) h

within-trans : (a b c : ℕ) → Within a b → Within b c → Within a c
within-trans a b c f g i = le_trans (f i) (g i)

-- ---- one step of sets
module _ (from to t o : ℕ) where
  pub grown-more : (bit_and from (bit_or t o) ≡ 0 → ⊥) → from < 2 ^ 64 → Grown from to t o (bit_or o to)
  grown-more n h =
      let s = common from (bit_or t o) n h in
      record {
        grow = or_l o to;
        adds = λ x e k. or_r o to;
        only = λ c e.
            let q = bit-or o to c in let y = bit-lt o c in let z = bit-lt to c in
            ⊎_elim (λ k. inl k) (λ w. inr (s.0, s.1, here_of t o s.0 s.2, omega (arith, zero (bit_of o c) y w))) (holds-or-not (decides_eq (bit_of o c) 1));
      }
    where
      zero : (u : ℕ) → u < 2 → (u ≡ 1 → ⊥) → u ≡ 0
      zero u l n = omega arith

  pub grown-same : bit_and from (bit_or t o) ≡ 0 → Grown from to t o o
  grown-same z = record {
    grow = λ i. le_refl _;
    adds = λ x e k. let f = and_none from (bit_or t o) z x in let g = of-here t o x k in absurd (omega arith);
    only = λ c e. inl e;
  }

-- ---- chains
module _ (ws : List ℕ) (n : ℕ) (ranks : List ℕ) (L : ℕ → Type 0) where
  -- A chain and one more step.
  pub longer : {a d c : ℕ} → Leads ws n ranks L a d → Step ws n ranks L d c → Leads ws n ranks L a c
  longer (step s) k = chain s (step k)
  longer (chain s r) k = chain s (longer r k)

  -- Two chains join.
  pub joined : {a d c : ℕ} → Leads ws n ranks L a d → Leads ws n ranks L d c → Leads ws n ranks L a c
  joined (step s) k = chain s k
  joined (chain s r) k = chain s (joined r k)

-- More lines lead as far.
module _ (ws : List ℕ) (n : ℕ) (ranks : List ℕ) (L K : ℕ → Type 0) (f : (j : ℕ) → j < 32 → L j → K j) where
  step-more : (a c : ℕ) → Step ws n ranks L a c → Step ws n ranks K a c
  step-more a c (rank h e) = rank h e
  step-more a c (line j h l x y) = line j h (f j h l) x y

  pub leads-more : {a c : ℕ} → Leads ws n ranks L a c → Leads ws n ranks K a c
  leads-more {a} {c} (step s) = step (step-more a c s)
  leads-more {a} {c} (chain {d = d} s r) = chain (step-more a d s) (leads-more r)

module _ (ws : List ℕ) (n : ℕ) (ranks : List ℕ) (m : ℕ) where
  abbrev Sound : ℕ → ℕ → Type 0
  Sound t o = (c : ℕ) → bit_of o c ≡ 1 → LedTo ws n ranks m t c

  -- A step from t, or from what steps lead to.
  onward : (t o x c : ℕ) → Sound t o → Here t o x → Step ws n ranks (Of m) x c → LedTo ws n ranks m t c
  onward t o x c f h s =
      ⊎_elim (λ e. record { begin = x; member = e; leads = step s })
      (λ e. let l = f x e in record { begin = l.begin; member = l.member; leads = longer ws n ranks (Of m) l.leads s }) h

-- ---- the words of the preferences
module _ (ranks : List ℕ) (t o : ℕ) where
  pub ranks-start : ByRanks ranks 0 t o o
  ranks-start = record { grow = λ i. le_refl _; adds = λ a h k. absurd (omega arith); keeps = λ ws n m f. f }

  pub ranks-turn : (k p r : ℕ) → k < length ranks → ByRanks ranks k t o p → Grown (2 ^ k) (get_or ranks k 0) t p r → ByRanks ranks (k + 1) t o r
  ranks-turn k p r l b g = record {
    grow = within-trans o p r b.grow g.grow;
    adds = λ a h w. ⊎_elim (λ (e : a ≡ k). rw e (g.adds k own (here-more t o p k b.grow (rw e at w)))) (λ (e : a < k). within-trans (get_or ranks a 0) p r (b.adds a e w) g.grow) (eq-or-lt_of_le (omega arith));
    keeps = λ ws n m f c e.
        ⊎_elim (λ q. b.keeps ws n m f c q)
        (λ q. let y : k ≡ q.0 = alike q.0 q.1 in onward ws n ranks m t p q.0 c (b.keeps ws n m f) q.2 (rank (rw (← y) l) (rw (← y) q.3))) (g.only c e);
  }
    where
      own : bit_of (2 ^ k) k ≡ 1
      own = eqb-true (bit_of (2 ^ k) k) 1 (bit-single k k ∙ eq-eqb k k refl)

      alike : (x : ℕ) → bit_of (2 ^ k) x ≡ 1 → k ≡ x
      alike x e = eqb-true k x (sym (bit-single k x) ∙ eq-eqb _ 1 e)

  -- The same with 1 shifted to place k.
  pub ranks-shifted : (k p r : ℕ) → length ranks ≤ 64 → k < length ranks → ByRanks ranks k t o p → Grown (1 * 2 ^ k % 2 ^ 64) (get_or ranks k 0) t p r → ByRanks ranks (k + 1) t o r
  ranks-shifted k p r m l b g = let e = shifted k (omega arith) in ranks-turn k p r l b (rw e at g)

  pub ranks-all : (k r : ℕ) → k ≤ length ranks → length ranks ≤ k → ByRanks ranks k t o r → ByRanks ranks (length ranks) t o r
  ranks-all k r h l b = let e : length ranks ≡ k = omega arith in rw e b

-- ---- lines
module _ (ws : List ℕ) (n m t o : ℕ) where
  pub lines_start : ByLines ws n m 0 t o o
  lines_start = record { grow = λ i. le_refl _; adds = λ j h e a f k. absurd (omega arith); keeps = λ ranks f. f }

  module _ (k p : ℕ) (l : k < 32) (b : ByLines ws n m k t o p) where
    pub lines-turn : (r : ℕ) → bit_of m k ≡ 1 → Grown (from_at ws n k) (to_at ws n k) t p r → ByLines ws n m (k + 1) t o r
    lines-turn r w g = record {
      grow = within-trans o p r b.grow g.grow;
      adds = λ j h e a f x.
          ⊎_elim (λ (z : j ≡ k). rw z (g.adds a (rw z at f) (here-more t o p a b.grow x))) (λ (z : j < k). within-trans (to_at ws n j) p r (b.adds j z e a f x) g.grow) (eq-or-lt_of_le (omega arith));
      keeps = λ ranks f c e.
          ⊎_elim (λ q. b.keeps ranks f c q) (λ q. onward ws n ranks m t p q.0 c (b.keeps ranks f) q.2 (line k l w q.1 q.3)) (g.only c e);
    }

    pub lines-skip : (bit_of m k ≡ 1 → ⊥) → ByLines ws n m (k + 1) t o p
    lines-skip w = record {
      grow = b.grow;
      adds = λ j h e a f x. ⊎_elim (λ (z : j ≡ k). absurd (w (rw z at e))) (λ (z : j < k). b.adds j z e a f x) (eq-or-lt_of_le (omega arith));
      keeps = b.keeps;
    }

  pub lines-all : (k r : ℕ) → k ≤ 32 → 32 ≤ k → ByLines ws n m k t o r → ByLines ws n m 32 t o r
  lines-all k r h l b = let e : 32 ≡ k = omega arith in rw e b

-- The line as it is read.
pub line_at : (ws : List ℕ) (n k t p r : ℕ) (l : Masks) → l ≡ masks_at ws (n + k) → Grown l.head.held l.head.denied t p r → Grown (from_at ws n k) (to_at ws n k) t p r
line_at ws n k t p r l e g = rw e at g

pub line-used : (ws : List ℕ) (n m k t p r : ℕ) (l : k < 32) → (bit_of m k ≡ 0 → ⊥) → Grown (from_at ws n k) (to_at ws n k) t p r → ByLine ws n m k t p r
line-used ws n m k t p r l w g = record { next = λ o b. lines-turn ws n m t o k p l b r (one (bit_of m k) (bit-lt m k) w) g }
  where
    one : (u : ℕ) → u < 2 → (u ≡ 0 → ⊥) → u ≡ 1
    one u h n = omega arith

pub line-unused : (ws : List ℕ) (n m k t p : ℕ) (l : k < 32) → bit_of m k ≡ 0 → ByLine ws n m k t p p
line-unused ws n m k t p l w = record { next = λ o b. lines-skip ws n m t o k p l b (λ e. absurd (omega arith)) }

-- ---- a pass, and what is reached
module _ (ws : List ℕ) (n : ℕ) (ranks : List ℕ) (m t : ℕ) where
  pub passed : (o p r : ℕ) → ByRanks ranks (length ranks) t o p → ByLines ws n m 32 t p r → Passed ws n ranks m t o r
  passed o p r f g = record { grow = within-trans o p r f.grow g.grow; adds = λ a c s h. go a c s h; keeps = λ q. g.keeps ranks (f.keeps ws n m q) }
    where
      go : (a c : ℕ) → Step ws n ranks (Of m) a c → Here t o a → bit_of r c ≡ 1
      go a c (rank l e) h = has p r c g.grow (has (get_or ranks a 0) p c (f.adds a l h) e)
      go a c (line j l w x y) h = has (to_at ws n j) r c (g.adds j l w a x (here-more t o p a f.grow h)) y

  -- Nothing is reached yet.
  pub nothing_yet : (c : ℕ) → bit_of 0 c ≡ 1 → LedTo ws n ranks m t c
  nothing_yet c e = let z = bit-zero c in absurd (omega arith)

  arrive : (o : ℕ) → ((a c : ℕ) → Step ws n ranks (Of m) a c → Here t o a → bit_of o c ≡ 1) → {a c : ℕ} → Here t o a → Leads ws n ranks (Of m) a c → bit_of o c ≡ 1
  arrive o f {a} {c} h (step s) = f a c s h
  arrive o f {a} {c} h (chain {d = d} s r) = arrive o f (inr (f a d s h)) r

  -- A pass that adds nothing.
  pub reached : (o r : ℕ) → ((c : ℕ) → bit_of o c ≡ 1 → LedTo ws n ranks m t c) → Passed ws n ranks m t o r → r ≡ o → Reached ws n ranks m t o
  reached o r f p e = record { only = f; all = λ c l. arrive o (λ a d s h. rw e at (p.adds a d s h)) (inl l.member) l.leads }

  -- One that adds something makes the set larger.
  pub larger : (o r : ℕ) → Passed ws n ranks m t o r → (r ≡ o → ⊥) → o < r
  larger o r p e = let q = sub-le o r p.grow in ⊎_elim (λ z. z) (λ (z : r ≤ o). absurd (e (omega arith))) (lt-or-le o r)

-- ---- sets made number by number
module _ (P : ℕ → Bool → Type 0) where
  module _ (k m : ℕ) (l : k < 64) (b : Passing P k m) where
    pub passing-with : P k true → Passing P (k + 1) (bit_or m (1 * 2 ^ k % 2 ^ 64))
    passing-with q = record {
      only = λ j x. ⊎_elim (λ y. let z = b.only j y in (omega (arith, z.0), z.1)) (λ (y : k ≡ j). (omega arith, rw (sym y) q)) (split j x);
      all = λ j h. ⊎_elim (λ (y : j ≡ k). inl (rw y own)) (λ (y : j < k). ⊎_elim (λ z. inl (has m _ j (or_l m _) z)) (λ z. inr z) (b.all j y)) (eq-or-lt_of_le (omega arith));
    }
      where
        is_one : 1 * 2 ^ k % 2 ^ 64 ≡ 2 ^ k
        is_one = shifted k l

        own : bit_of (bit_or m (1 * 2 ^ k % 2 ^ 64)) k ≡ 1
        own = has (1 * 2 ^ k % 2 ^ 64) _ k (or_r m _) (rw is_one (eqb-true (bit_of (2 ^ k) k) 1 (bit-single k k ∙ eq-eqb k k refl)))

        split : (j : ℕ) → bit_of (bit_or m (1 * 2 ^ k % 2 ^ 64)) j ≡ 1 → (bit_of m j ≡ 1) ⊎ (k ≡ j)
        split j x = ⊎_elim (λ y. inl y) (λ y. inr (eqb-true k j (sym (bit-single k j) ∙ eq-eqb _ 1 (rw is_one at y)))) (here_of m (1 * 2 ^ k % 2 ^ 64) j x)

    pub passing-without : P k false → Passing P (k + 1) m
    passing-without q = record {
      only = λ j x. let z = b.only j x in (omega (arith, z.0), z.1);
      all = λ j h. ⊎_elim (λ (y : j ≡ k). inr (rw y q)) (λ (y : j < k). b.all j y) (eq-or-lt_of_le (omega arith));
    }

-- Of a test that decides a property: the numbers that have it.
pub passing-chosen : {P : ℕ → Bool → Type 0} {Q : ℕ → Type 0} (k r : ℕ) → ((j : ℕ) (o : Bool) → j < k → P j o → Decides o (Q j)) → Passing P k r → Chosen Q k r
passing-chosen k r d p = record {
  only = λ j x. let z = p.only j x in (z.0, (d j true z.0 z.1).yes refl);
  all = λ j h q. ⊎_elim (λ y. y) (λ y. absurd ((d j false h y).no refl q)) (p.all j h);
}

-- ---- the lines that are the same step as one of a set
module _ (ws : List ℕ) (n m : ℕ) where
  pub mates-none : Mates ws n m 0 0
  mates-none = record { only = λ j e. let z = bit-zero j in absurd (omega arith); all = λ j h i l. absurd (omega arith) }

  pub mates-all : (k r : ℕ) → k ≤ 32 → 32 ≤ k → Mates ws n m k r → Mates ws n m 32 r
  mates-all k r h l b = let e : 32 ≡ k = omega arith in rw e b

  module _ (k p : ℕ) (l : k < 32) where
    pub mates-skip : bit_of m k ≡ 0 → MatesOf ws n m k p p
    mates-skip z = record {
      next = λ b. record {
        only = b.only;
        all = λ j h i g e s. ⊎_elim (λ (y : i ≡ k). absurd (let w : bit_of m k ≡ 1 = rw y at e in omega arith)) (λ (y : i < k). b.all j h i y e s) (eq-or-lt_of_le (omega arith));
      };
    }

    pub mates-more : (bit_of m k ≡ 0 → ⊥) → (r : ℕ) → Chosen (Alike ws n k) 32 r → MatesOf ws n m k p (bit_or p r)
    mates-more z r c = record {
      next = λ b. record {
        only = λ j e. ⊎_elim (λ y. b.only j y) (λ y. let q = c.only j y in (q.0, (k, l, one (bit_of m k) (bit-lt m k) z, q.1))) (here_of p r j e);
        all = λ j h i g e s. ⊎_elim (λ (y : i ≡ k). has r _ j (or_r p r) (c.all j h (rw y at s))) (λ (y : i < k). has p _ j (or_l p r) (b.all j h i y e s)) (eq-or-lt_of_le (omega arith));
      };
    }
      where
        one : (u : ℕ) → u < 2 → (u ≡ 0 → ⊥) → u ≡ 1
        one u h n = omega arith

-- ---- whether there are lines, and whether the pair's exceptions are apart by them
module _ (ws : List ℕ) (n : ℕ) where
  pub lined-short : length ws - n * 8 < 32 * 8 → Decides false (Lined ws n)
  lined-short h = decides-false (λ l. let r = l.room in omega arith)

  pub lined-first : (length ws - n * 8 < 32 * 8 → ⊥) → n * 8 ≤ length ws → Decides (not (eqb (get_or ws (n * 8) 0) 0)) (Lined ws n)
  unfolding masks_at
  lined-first h l = record {
    yes = λ e. record { room = omega arith; first = λ z. eqb-false _ 0 (not-true _ e) (rw (plus-zero n) at z) };
    no = λ e q. q.first (rw (plus-zero n) (eqb-true _ 0 (not-false _ e)));
  }
    where
      plus-zero : (k : ℕ) → k + 0 ≡ k
      plus-zero k = omega arith

module _ (ws : List ℕ) (n : ℕ) (ranks : List ℕ) (v : Pair) where
  pub uncrossed-none : (o : Bool) → Decides o (Lined ws n) → not o ≡ true → Decides true (Lined ws n → Uncrossed ws n ranks v)
  uncrossed-none o d e = decides-true (λ l. absurd (refused d e l))

  pub uncrossed-reach : (o : Bool) → Decides o (Lined ws n) → not o ≡ false → v.taken < 2 ^ 64 → (m r : ℕ) → Chosen (Counts ws n v) 32 m → Reached ws n ranks m v.taken r
      → Decides (eqb (bit_and r v.taken) 0) (Lined ws n → Uncrossed ws n ranks v)
  uncrossed-reach o d e h m r c q = record {
    yes = λ z l a b x p y. let f = and_none r v.taken (eqb-true _ 0 z) b in
        let g = q.all b (record { begin = a; member = x; leads = leads-more ws n ranks (Counts ws n v) (Of m) (λ j i w. c.all j i w) p }) in
        omega arith;
    no = λ z f. let s = common-right r v.taken (λ w. eqb-false _ 0 z w) h in
        let t = q.only s.0 s.1 in
        f (granted d e) t.begin s.0 t.member (leads-more ws n ranks (Of m) (Counts ws n v) (λ j i w. (c.only j w).1) t.leads) s.2;
  }

-- What leads without any word of preferences leads with them.
pub leads-unranked : (ws : List ℕ) (n : ℕ) (ranks : List ℕ) (L : ℕ → Type 0) {a c : ℕ} → Leads ws n [] L a c → Leads ws n ranks L a c
leads-unranked ws n ranks L (step (rank h e)) = absurd (omega arith)
leads-unranked ws n ranks L (step (line j h l x y)) = step (line j h l x y)
leads-unranked ws n ranks L (chain (rank h e) r) = absurd (omega arith)
leads-unranked ws n ranks L (chain (line j h l x y) r) = chain (line j h l x y) (leads-unranked ws n ranks L r)
