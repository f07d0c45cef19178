-- The rows of conclusions: putting a rule into a row takes nothing away, so in the end every rule is in the rows of all its heads; and a
-- rule that can give a conclusion is counted already, or the rest of the conclusion's row names it.
use mathlib.Core.Path.{◌≡◌, refl, sym, ap, ◌∙◌}
use mathlib.Core.List.{List}
use mathlib.Core.Logic.{◌⊎◌, inl, inr, ⊎_elim}
use Prim.Native.Nat.{ℕ, zero, suc, ◌+◌, ◌-◌, ◌^◌, ◌<◌, ◌≤◌}
use native.Mathlib.Omega.{arith}
use lib.Bits.{bit_or}
use lib.ListN.{length, get_or, set}
use lib.Seq.{get_or-set_same, get_or-set_other}
use Rattle.logic.proofs.Decide.{holds-or-not, decides_eq}
use Rattle.sets.specs.declared.Pair.{Pair}
use Rattle.sets.specs.Sets.{bit_of, Within, without}
use Rattle.sets.specs.Pairs.{Sub, Off, minus_of}
use Rattle.sets.proofs.Digits.{bit-zero, bit-lt, bit-or, lt-or-le}
use Rattle.sets.proofs.Words.{single-has, or_l}
use Rattle.sets.proofs.Lowest.{own-digit, fewer-has}
use Rattle.masks.specs.declared.Masks.{Masks}
use Rattle.masks.specs.declared.Bounds.{Bounds}
use Rattle.masks.specs.Views.{masks_at, Fires}
use Rattle.bounds.specs.Singles.{one_of}
use Rattle.queue.specs.declared.heads.Givers.{Givers}
use Rattle.queue.specs.declared.heads.Givers.TheVariants.{One, Several}
use Rattle.queue.specs.Places.{row_at, rows_place}
use Rattle.queue.specs.Chains.{Rows, Named, Grown, Put, HeadsPut, RowsPut, Seen, idle, sole, more, Weighed, passed, counted}
use Rattle.queue.proofs.Chains.{nobody-one, nobody-several, one-several, same-one}

-- ---- a word
no_member : {P : Type 0} (w j : ℕ) → w ≡ 0 → bit_of w j ≡ 1 → P
no_member w j e h = let z = bit-zero j in let y = rw e at h in absurd (omega arith)

-- ---- rows grow
pub grown-none : (a : List ℕ) → Grown a a
grown-none a = record { more = λ p k. omega arith; kept = λ p h. refl }

pub grown-both : (a b c : List ℕ) → Grown a b → Grown b c → Grown a c
grown-both a b c f g = record { more = λ p k. omega (arith, f.more p k, g.more p k); kept = λ p h. g.kept p h ∙ f.kept p h }

-- A digit that a row has stays.
grown-has : (a b : List ℕ) → Grown a b → (p j : ℕ) → bit_of (get_or a p 0) j ≡ 1 → bit_of (get_or b p 0) j ≡ 1
grown-has a b g p j h = omega (arith, g.more p j, bit-lt (get_or b p 0) j)

-- The digit j is put into the row at one place.
module _ (a : List ℕ) (at x j : ℕ) (ex : x ≡ 2 ^ j) (past : rows_place ≤ at) (short : at < length a) where
  abbrev with-digit : List ℕ
  with-digit = set a at (bit_or (get_or a at 0) x)

  at_row : get_or with-digit at 0 ≡ bit_or (get_or a at 0) x
  at_row = get_or-set_same a at (bit_or (get_or a at 0) x) 0 short

  at_other : (p : ℕ) → (p ≡ at → ⊥) → get_or with-digit p 0 ≡ get_or a p 0
  at_other p f = get_or-set_other a at p (bit_or (get_or a at 0) x) 0 f

  row_more : Within (get_or a at 0) (get_or with-digit at 0)
  row_more k = rw at_row (or_l (get_or a at 0) x k)

  grown-one : Grown a with-digit
  grown-one = record {
    more = λ p k. ⊎_elim (λ e. rw e (row_more k)) (λ f. rw (at_other p f) (omega arith)) (holds-or-not (decides_eq p at));
    kept = λ p h. at_other p (λ e. omega arith);
  }

  row_has : bit_of (get_or with-digit at 0) j ≡ 1
  row_has = rw (at_row, ex) (omega (arith, bit-or (get_or a at 0) (2 ^ j) j, own-digit j, bit-lt (get_or a at 0) j))

-- Of m's members each is put already, or left in w.
pub record Putting (before : List ℕ) (from m j w : ℕ) (now : List ℕ) : Type 0 where
  pub grown : Grown before now
  pub left : (i : ℕ) → bit_of m i ≡ 1 → (bit_of (get_or now (from + i) 0) j ≡ 1) ⊎ (bit_of w i ≡ 1)

pub put_first : (a : List ℕ) (from m j : ℕ) → Putting a from m j m a
put_first a from m j = record { grown = grown-none a; left = λ i h. inr h }

module _ (a b : List ℕ) (from m j w w' i x : ℕ) (ex : x ≡ 2 ^ j) (past : rows_place ≤ from) (short : from + i < length b) (ew : w' ≡ without w (2 ^ i)) (p : Putting a from m j w b) where
  abbrev after : List ℕ
  after = set b (from + i) (bit_or (get_or b (from + i) 0) x)

  turn-grown : Grown b after
  turn-grown = grown-one b (from + i) x j ex (omega arith) short

  turn-left : (l : ℕ) → bit_of w l ≡ 1 → (bit_of (get_or after (from + l) 0) j ≡ 1) ⊎ (bit_of w' l ≡ 1)
  turn-left l y = ⊎_elim (λ e. inl (rw e (row_has b (from + i) x j ex (omega arith) short))) (λ f. inr (fewer-has w w' i ew l f y)) (holds-or-not (decides_eq l i))

  pub put-turn : Putting a from m j w' after
  put-turn = record {
    grown = grown-both a b after p.grown turn-grown;
    left = λ l h. ⊎_elim (λ y. inl (grown-has b after turn-grown (from + l) j y)) (λ y. turn-left l y) (p.left l h);
  }

pub put-done : (a b : List ℕ) (from m j w : ℕ) → w ≡ 0 → Putting a from m j w b → Put a from m j b
put-done a b from m j w e p = record { grown = p.grown; has = λ i h. ⊎_elim (λ y. y) (λ y. no_member w i e y) (p.left i h) }

-- Both words of a rule's heads.
pub heads-put : (a b d : List ℕ) (r : Masks) (j : ℕ) → Put a rows_place r.head.held j b → Put b (rows_place + 64) r.head.denied j d → HeadsPut a r j d
unfolding one_of
heads-put a b d r j f g = record { grown = grown-both a b d f.grown g.grown; has = has }
  where
    has : (s i : ℕ) → s < 2 → Sub (one_of s i) r.head → bit_of (get_or d (row_at s i) 0) j ≡ 1
    has zero i h q = let e : row_at 0 i ≡ rows_place + i = omega arith in rw e (grown-has b d g.grown (rows_place + i) j (f.has i (single-has i r.head.held q.held)))
    has (suc zero) i h q = let e : row_at 1 i ≡ rows_place + 64 + i = omega arith in rw e (g.has i (single-has i r.head.denied q.denied))
    has (suc (suc s)) i h q = absurd (omega arith)

-- ---- all rules from c on
module _ (ws : List ℕ) (n c : ℕ) (a : List ℕ) where
  pub rows-many : c + 64 < n → RowsPut ws n c a a
  rows-many h = record { grown = grown-none a; rows = λ l. absurd (omega arith) }

  -- The rules from c to before k are in rows.
  pub record RowsTo (k : ℕ) (b : List ℕ) : Type 0 where
    pub grown : Grown a b
    pub rows : Rows ws k c b

  pub rows-first : RowsTo c a
  rows-first = record { grown = grown-none a; rows = record { row = λ s i k hs hi l h g. absurd (omega arith) } }

  pub rows-turn : (k : ℕ) (b d : List ℕ) (r : Masks) → r ≡ masks_at ws k → RowsTo k b → HeadsPut b r (k - c) d → RowsTo (k + 1) d
  rows-turn k b d r er f g = record {
    grown = grown-both a b d f.grown g.grown;
    rows = record {
      row = λ s i l hs hi x y z. ⊎_elim (λ u. grown-has b d g.grown (row_at s i) (l - c) (f.rows.row s i l hs hi x u z))
          (λ u. let e : l ≡ k = omega arith in rw e (g.has s i hs (rw er (rw e at z)))) (lt-or-le l k);
    };
  }

  pub rows-done : (k : ℕ) (b : List ℕ) → k ≤ n → n ≤ k → RowsTo k b → RowsPut ws n c a b
  rows-done k b h l f = let e : k ≡ n = omega arith in record { grown = f.grown; rows = λ x. rw e at f.rows }

-- ---- along a row
module _ (ws : List ℕ) (n c : ℕ) (m : Pair) (b : Bounds) where
  -- A rule that can give m is counted by g, or w names it.
  pub record SeenBut (w : ℕ) (g : Givers) : Type 0 where
    pub rule : (k : ℕ) → g ≡ One k → k < n
    pub only : (k : ℕ) → k < n → Fires (masks_at ws k) b.lo b.hi → Sub m (masks_at ws k).head → Off (minus_of (masks_at ws k).head m) b.lo
        → ((g ≡ One k) ⊎ (g ≡ Several)) ⊎ ((c ≤ k) × (bit_of w (k - c) ≡ 1))

  pub row-begin : (w : ℕ) (g : Givers) → c ≤ n → Named ws n c m w → Seen ws c c m b g → SeenBut w g
  row-begin w g l f s = record {
    rule = λ k e. let z = s.rule k e in omega arith;
    only = λ k h x y o. ⊎_elim (λ u. inl (s.only k u u x y o)) (λ u. inr (u, f k u h y)) (lt-or-le k c);
  }

  pub row-end : (w : ℕ) (g : Givers) → w ≡ 0 → SeenBut w g → Seen ws n n m b g
  row-end w g e s = record { rule = s.rule; only = λ k h l x y o. ⊎_elim (λ u. u) (λ u. no_member w (k - c) e u.1) (s.only k h x y o) }

  pub row-turn : (w w' i : ℕ) (r : Masks) (g h : Givers) → w' ≡ without w (2 ^ i) → c + i < n → r ≡ masks_at ws (c + i) → SeenBut w g → Weighed r b m (c + i) g h → SeenBut w' h
  row-turn w w' i r g h ew l er s v = go v
    where
      -- A rule that w names is the one at place i, or named by the rest.
      rest : (k : ℕ) → c ≤ k → bit_of w (k - c) ≡ 1 → (k ≡ c + i) ⊎ ((c ≤ k) × (bit_of w' (k - c) ≡ 1))
      rest k a z = ⊎_elim (λ e. inl (omega arith)) (λ f. inr (a, fewer-has w w' i ew (k - c) f z)) (holds-or-not (decides_eq (k - c) i))

      same : (h ≡ g) → (Fires (masks_at ws (c + i)) b.lo b.hi → Sub m (masks_at ws (c + i)).head → Off (minus_of (masks_at ws (c + i)).head m) b.lo → ⊥) → SeenBut w' h
      same e f = rw e (record {
        rule = s.rule;
        only = λ k a x y o. ⊎_elim (λ u. inl u) (λ u. ⊎_elim (λ q. absurd (f (rw q at x) (rw q at y) (rw q at o))) (λ q. inr q) (rest k u.0 u.1)) (s.only k a x y o);
      })

      go : Weighed r b m (c + i) g h → SeenBut w' h
      go (passed f e) = same e (λ x y o. f (rw er y) (rw er o))
      go (counted (idle f e)) = same e (λ x y o. f (rw er x))
      go (counted (sole f e)) = rw e (record {
        rule = λ k q. rw (same-one q) l;
        only = λ k a x y o. ⊎_elim (λ u. absurd (⊎_elim (λ q. nobody-one (sym f ∙ q)) (λ q. nobody-several (sym f ∙ q)) u)) (λ u. ⊎_elim (λ q. inl (inl (ap (λ (z : ℕ). One z) (sym q)))) (λ q. inr q) (rest k u.0 u.1)) (s.only k a x y o);
      })
      go (counted (more e)) = record { rule = λ k q. one-several (sym q ∙ e); only = λ k a x y o. inl (inr e) }

-- All rules are in chains.
pub seen-none-more : (ws : List ℕ) (n c : ℕ) (m : Pair) (b : Bounds) (g : Givers) → c ≤ n → n ≤ c → Seen ws c c m b g → Seen ws n n m b g
seen-none-more ws n c m b g l h s = let e : c ≡ n = omega arith in rw e at s

-- The row of one conclusion.
pub row-names : (ws : List ℕ) (n c s i : ℕ) (m : Pair) (index : List ℕ) → s < 2 → i < 64 → m ≡ one_of s i → Rows ws n c index → Named ws n c m (get_or index (row_at s i) 0)
row-names ws n c s i m index hs hi em r k l h y = r.row s i k hs hi l h (rw em at y)
