-- The chains of rules by their heads. A rule that is put in front has the head of one chain alone, so it moves no other; along a chain
-- every rule with its head is met, so what the chain does not name cannot give the conclusion.
use mathlib.Core.Path.{◌≡◌, refl, sym, ap, ◌∙◌}
use mathlib.Core.Bool.{Bool, true, false, not}
use mathlib.Core.List.{List}
use mathlib.Core.Logic.{◌⊎◌, inl, inr, ⊎_elim}
use Prim.Native.Nat.{ℕ, zero, suc, ◌+◌, ◌-◌, ◌^◌, ◌<◌, ◌≤◌}
use native.Mathlib.Omega.{arith}
use borrow.Author.Tests.{eqb-true, not-true, not-false}
use lib.Dec.{eqb}
use lib.ListN.{length, get_or, set, length-set}
use lib.Seq.{get_or-set_same, get_or-set_other}
use Rattle.logic.specs.Tests.{Decides}
use Rattle.logic.proofs.Decide.{clash, holds-or-not, decides_eq}
use Rattle.sets.specs.declared.Pair.{Pair}
use Rattle.sets.specs.Sets.{Within}
use Rattle.sets.specs.Pairs.{Sub, Off, minus_of}
use Rattle.sets.proofs.Digits.{bit-zero, bit-single, lt-or-le}
use Rattle.sets.proofs.Words.{single-has}
use Rattle.masks.specs.declared.Masks.{Masks}
use Rattle.masks.specs.declared.Bounds.{Bounds}
use Rattle.masks.specs.Views.{masks_at, Fires, Constraint}
use Rattle.bounds.specs.Singles.{one_of}
use Rattle.queue.specs.declared.heads.Givers.{Givers}
use Rattle.queue.specs.declared.heads.Givers.TheVariants.{Nobody, One, Several}
use Rattle.queue.specs.Places.{first_at, next_at, whole_place, cut_place, row_at, index_length}
use Rattle.queue.specs.Chains.{Gives, ChainsFrom, Chains, Chained, headless, headed, RowsPut, Seen, Counted, idle, sole, more, Weighed, passed}

-- ---- one conclusion
same_place : (i j : ℕ) → Within (2 ^ i) (2 ^ j) → i ≡ j
same_place i j f = sym (eqb-true j i (sym (bit-single j i) ∙ ap (λ (x : ℕ). eqb x 1) (single-has i (2 ^ j) f)))

none_has : (i : ℕ) → Within (2 ^ i) 0 → ⊥
none_has i f = let e = single-has i 0 f in let z = bit-zero i in omega arith

-- A conclusion within one conclusion is that one.
pub one_same : (s i t j : ℕ) → s < 2 → t < 2 → Sub (one_of s i) (one_of t j) → (s ≡ t) × (i ≡ j)
unfolding one_of
one_same zero i zero j h g f = (refl, same_place i j f.held)
one_same zero i (suc zero) j h g f = absurd (none_has i f.held)
one_same zero i (suc (suc t)) j h g f = absurd (omega arith)
one_same (suc zero) i zero j h g f = absurd (none_has i f.denied)
one_same (suc zero) i (suc zero) j h g f = (refl, same_place i j f.denied)
one_same (suc zero) i (suc (suc t)) j h g f = absurd (omega arith)
one_same (suc (suc s)) i t j h g f = absurd (omega arith)

-- A constraint has none in its head.
pub none-given : (r : Masks) (s i : ℕ) → s < 2 → Constraint r → Sub (one_of s i) r.head → ⊥
unfolding one_of
none-given r zero i h c f = none_has i (rw c.held at f.held)
none-given r (suc zero) i h c f = none_has i (rw c.denied at f.denied)
none-given r (suc (suc s)) i h c f = absurd (omega arith)

-- ---- what becomes of the index
module _ (index : List ℕ) (r : Masks) (k : ℕ) where
  pub chained-none : (w : Bool) → Decides w (Constraint r) → w ≡ true → ◌≡◌ {A = Bool} true true → Chained index r k index
  chained-none w d e t = headless (d.yes e) refl

  pub chained-not : (index' : List ℕ) → false ≡ true → Chained index r k index'
  chained-not index' e = absurd (clash e)

  pub chained-one : (s i : ℕ) (m : Pair) (w : Bool) (index' : List ℕ) → s < 2 → i < 64 → m ≡ one_of s i → Decides w (r.head ≡ m) → w ≡ true
      → index' ≡ set (set index (next_at k) (get_or index (first_at s i) 0)) (first_at s i) k → ◌≡◌ {A = Bool} true true → Chained index r k index'
  chained-one s i m w index' hs hi em d e ei t = headed s i hs hi (d.yes e ∙ em) ei

-- ---- chains grow from the last rule to the first
module _ (ws : List ℕ) (n : ℕ) where
  pub chains-none : (index : List ℕ) → ChainsFrom ws n index n
  chains-none index = record { first = λ s i k a b f g. absurd (omega arith); next = λ s i j k a b f g h. absurd (omega arith) }

  -- The first of two numbers, or a later one.
  from-or-past : (k j : ℕ) → k ≤ j → (j ≡ k) ⊎ (k + 1 ≤ j)
  from-or-past k j h = ⊎_elim (λ l. inr (omega arith)) (λ l. inl (omega arith)) (lt-or-le k j)

  module _ (index : List ℕ) (long : length index ≡ index_length) (k : ℕ) (few : k < 256) (c : ChainsFrom ws n index (k + 1)) (r : Masks) (er : r ≡ masks_at ws k) where
    chain-headless : Constraint r → ChainsFrom ws n index k
    chain-headless q = record {
      first = λ s i j a b f g e. ⊎_elim (λ x. absurd (not-k s i a (rw x at e))) (λ x. c.first s i j a b x g e) (from-or-past k j f);
      next = λ s i j l a b f g h e d. ⊎_elim (λ x. absurd (not-k s i a (rw x at e))) (λ x. c.next s i j l a b x g h e d) (from-or-past k j f);
    }
      where
        not-k : (s i : ℕ) → s < 2 → Gives ws s i k → ⊥
        not-k s i a e = none-given r s i a q (rw er e)

    module _ (s i : ℕ) (hs : s < 2) (hi : i < 64) (eh : r.head ≡ one_of s i) where
      abbrev before : List ℕ
      before = set index (next_at k) (get_or index (first_at s i) 0)

      abbrev after : List ℕ
      after = set before (first_at s i) k

      -- Rule k gives this conclusion alone.
      own : (t j : ℕ) → t < 2 → Gives ws t j k → (t ≡ s) × (j ≡ i)
      own t j h e =
          let f : Sub (one_of t j) r.head = rw er e in
          one_same t j s i h hs (rw eh at f)

      -- What the index has afterwards.
      at_first : get_or after (first_at s i) 0 ≡ k
      at_first = get_or-set_same before (first_at s i) k 0 (rw (length-set index (next_at k) (get_or index (first_at s i) 0), long) (omega arith))

      at_next : get_or after (next_at k) 0 ≡ get_or index (first_at s i) 0
      at_next = get_or-set_other before (first_at s i) (next_at k) k 0 (λ x. omega arith) ∙ get_or-set_same index (next_at k) (get_or index (first_at s i) 0) 0 (rw long (omega arith))

      elsewhere : (p : ℕ) → (p ≡ first_at s i → ⊥) → (p ≡ next_at k → ⊥) → get_or after p 0 ≡ get_or index p 0
      elsewhere p f g = get_or-set_other before (first_at s i) p k 0 f ∙ get_or-set_other index (next_at k) p (get_or index (first_at s i) 0) 0 g

      first-after : (t j l : ℕ) → t < 2 → j < 64 → k ≤ l → l < n → Gives ws t j l → get_or after (first_at t j) 0 ≤ l
      first-after t j l a b f g e = ⊎_elim (λ x. rw (x.0, x.1, at_first) f) (λ x. ⊎_elim (λ y. absurd (x (own t j a (rw y at e)))) (λ y. rw (elsewhere (first_at t j) (λ z. x (place t j a b z)) (λ z. omega arith)) (c.first t j l a b y g e)) (from-or-past k l f)) (same_or_not t j)
        where
          place : (t j : ℕ) → t < 2 → j < 64 → first_at t j ≡ first_at s i → (t ≡ s) × (j ≡ i)
          place t j a b z = (omega arith, omega arith)

          same_or_not : (t j : ℕ) → ((t ≡ s) × (j ≡ i)) ⊎ ((t ≡ s) × (j ≡ i) → ⊥)
          same_or_not t j = ⊎_elim (λ x. ⊎_elim (λ y. inl (x, y)) (λ y. inr (λ z. y z.1)) (holds-or-not (decides_eq j i))) (λ x. inr (λ z. x z.0)) (holds-or-not (decides_eq t s))

      next-after : (t j l m : ℕ) → t < 2 → j < 64 → k ≤ l → l < m → m < n → Gives ws t j l → Gives ws t j m → get_or after (next_at l) 0 ≤ m
      next-after t j l m a b f g h e d =
          ⊎_elim (λ x. let o = own t j a (rw x at e) in
          let q : get_or after (next_at l) 0 ≡ get_or index (first_at s i) 0 = ap (λ (y : ℕ). get_or after (next_at y) 0) x ∙ at_next in
          rw q (c.first s i m hs hi (omega arith) h (rw (sym o.0, sym o.1) d)))
          (λ x. rw (elsewhere (next_at l) (λ z. omega arith) (λ z. omega arith)) (c.next t j l m a b x g h e d))
          (from-or-past k l f)

      chain-headed : ChainsFrom ws n after k
      chain-headed = record { first = first-after; next = next-after }

    pub chain_more : (index' : List ℕ) → Chained index r k index' → ChainsFrom ws n index' k
    chain_more index' (headless q e) = rw e (chain-headless q)
    chain_more index' (headed s i hs hi eh e) = rw e (chain-headed s i hs hi eh)

-- ---- all rules
module _ (ws : List ℕ) (n : ℕ) where
  -- Rule k is the next, going down; w says whether every rule so far has one conclusion for its head, or none.
  pub chains-turn : (index index' : List ℕ) → length index ≡ index_length → (k l : ℕ) (w : Bool) → l ≡ k - 1 → 0 < k → k ≤ n → n ≤ 256 → (w ≡ true → ChainsFrom ws n index k) → (r : Masks) → r ≡ masks_at ws l
      → (z : Bool) → (z ≡ true → Chained index r l index') → not z ≡ false → w ≡ true → ChainsFrom ws n index' l
  chains-turn index index' long k l w el p h few c r er z f e ew =
      let ek : k ≡ l + 1 = omega arith in
      chain_more ws n index long l (omega arith) (rw ek at (c ew)) r er index' (f (not-false z e))

  pub chains-done : (index : List ℕ) (k : ℕ) (w : Bool) → k ≤ 0 → (w ≡ true → ChainsFrom ws n index k) → w ≡ true → ChainsFrom ws n index 0
  chains-done index k w h c e = let q : k ≡ 0 = omega arith in rw q at (c e)

-- The two words between the chains and the rows.
module _ (ws : List ℕ) (n c w : ℕ) (before index : List ℕ) (long : length index ≡ index_length) (few : n ≤ 256) (upto : c ≤ n) (f : w ≡ 1 → ChainsFrom ws c before 0) (g : RowsPut ws n c before index) where
  abbrev cutted : List ℕ
  cutted = set index cut_place c

  abbrev done : List ℕ
  done = set cutted whole_place w

  at_cut : get_or done cut_place 0 ≡ c
  at_cut = get_or-set_other cutted whole_place cut_place w 0 (λ z. omega arith) ∙ get_or-set_same index cut_place c 0 (rw long (omega arith))

  at-whole : get_or done whole_place 0 ≡ w
  at-whole = get_or-set_same cutted whole_place w 0 (rw (length-set index cut_place c, long) (omega arith))

  at-else : (p : ℕ) → (p ≡ whole_place → ⊥) → (p ≡ cut_place → ⊥) → get_or done p 0 ≡ get_or index p 0
  at-else p a b = get_or-set_other cutted whole_place p w 0 a ∙ get_or-set_other index cut_place p c 0 b

  -- What stands before the two words is that from before the rows.
  at-chains : (p : ℕ) → p < whole_place → get_or done p 0 ≡ get_or before p 0
  at-chains p h = at-else p (λ z. omega arith) (λ z. omega arith) ∙ g.grown.kept p (omega arith)

  pub chains-are : Chains ws n done
  chains-are = record {
    few = few;
    upto = rw at_cut upto;
    whole = λ e.
        let d = f (sym at-whole ∙ e) in
        rw at_cut (record {
          first = λ s i j a b u h x. rw (at-chains (first_at s i) (omega arith)) (d.first s i j a b (omega arith) h x);
          next = λ s i j l a b u h z x y. rw (at-chains (next_at j) (omega arith)) (d.next s i j l a b (omega arith) h z x y);
        });
    rows = λ h. rw at_cut (record { row = λ s i k a b u v x. rw (at-else (row_at s i) (λ z. omega arith) (λ z. omega arith)) ((g.rows (rw at_cut at h)).row s i k a b u v x) });
  }

-- ---- along a chain
pub gives-is : (ws : List ℕ) (s i k : ℕ) (m : Pair) (r : Masks) (w : Bool) → m ≡ one_of s i → r ≡ masks_at ws k → Decides w (Sub m r.head) → not w ≡ false → Gives ws s i k
gives-is ws s i k m r w em er d e = rw (em, er) at (d.yes (not-false w e))

-- The three are apart.
pub nobody-one : {P : Type 0} {k : ℕ} → Nobody ≡ One k → P
nobody-one e = absurd (let z : ◌≡◌ {A = ℕ} 0 1 = cc in omega arith)

pub nobody-several : {P : Type 0} → Nobody ≡ Several → P
nobody-several e = absurd (let z : ◌≡◌ {A = ℕ} 0 1 = cc in omega arith)

pub one-several : {P : Type 0} {k : ℕ} → One k ≡ Several → P
one-several e = absurd (let z : ◌≡◌ {A = ℕ} 0 1 = cc in omega arith)

pub same-one : {j k : ℕ} → One j ≡ One k → k ≡ j
same-one e = cc

module _ (r : Masks) (b : Bounds) (k : ℕ) (g : Givers) where
  pub counted-idle : (w : Bool) → Decides w (Fires r b.lo b.hi) → not w ≡ true → Counted r b k g g
  counted-idle w d e = idle (d.no (not-true w e)) refl

module _ (ws : List ℕ) (n : ℕ) (m : Pair) (b : Bounds) where
  -- The first of the chain has no rule with its head before it.
  pub seen_first : (p : ℕ) → ((k : ℕ) → k < n → Sub m (masks_at ws k).head → p ≤ k) → Seen ws n p m b Nobody
  seen_first p f = record { rule = λ k e. nobody-one e; only = λ k h l x y o. let z = f k h y in absurd (omega arith) }

  -- Nothing is known.
  pub seen-several : (p : ℕ) (g : Givers) → g ≡ Several → Seen ws n p m b g
  seen-several p g e = record { rule = λ k q. one-several (sym q ∙ e); only = λ k h l x y o. inr e }

  -- Rule p and the next of its chain.
  pub seen_next : (p q : ℕ) (r : Masks) (g h : Givers) → Seen ws n p m b g → p < n → r ≡ masks_at ws p → Counted r b p g h
      → ((k : ℕ) → p < k → k < n → Sub m (masks_at ws k).head → q ≤ k) → Seen ws n q m b h
  seen_next p q r g h s l er c f = go c
    where
      -- A rule before the next of the chain stands before p or is p.
      before : (k : ℕ) → k < n → k < q → Sub m (masks_at ws k).head → (k < p) ⊎ (k ≡ p)
      before k a d z = ⊎_elim (λ u. inl u) (λ u. ⊎_elim (λ v. let w = f k v a z in absurd (omega arith)) (λ v. inr (omega arith)) (lt-or-le p k)) (lt-or-le k p)

      go : Counted r b p g h → Seen ws n q m b h
      go (idle x e) = rw e (record { rule = s.rule; only = λ k a d y z o. ⊎_elim (λ u. s.only k a u y z o) (λ u. absurd (x (rw er (rw u at y)))) (before k a d z) })
      go (sole x e) = rw e (record {
        rule = λ k u. rw (same-one u) l;
        only = λ k a d y z o. ⊎_elim (λ u. ⊎_elim (λ v. nobody-one (sym x ∙ v)) (λ v. nobody-several (sym x ∙ v)) (s.only k a u y z o)) (λ u. inl (ap (λ (j : ℕ). One j) (sym u))) (before k a d z);
      })
      go (more e) = seen-several q h e

  -- The end of the chain.
  pub seen_all : (p : ℕ) (g : Givers) → n ≤ p → Seen ws n p m b g → Seen ws n n m b g
  seen_all p g l s = record { rule = s.rule; only = λ k h x. s.only k h (omega arith) }

-- ---- the rules after those in chains
module _ (r : Masks) (b : Bounds) (m : Pair) (k : ℕ) (g : Givers) where
  pub weighed-without : (w : Bool) → Decides w (Sub m r.head) → not w ≡ true → Weighed r b m k g g
  weighed-without w d e = passed (λ s o. d.no (not-true w e) s) refl

  pub weighed-sure : (w : Bool) (x : Pair) → x ≡ minus_of r.head m → Decides w (Off x b.lo) → not w ≡ true → Weighed r b m k g g
  weighed-sure w x ex d e = passed (λ s o. d.no (not-true w e) (rw ex o)) refl
