-- The parts of a listing by the place of their set of exceptions: the part of the first j places and that of the next join, since the order of
-- the sets is the order of pairs; all places together have every resolution.
use mathlib.Core.Path.{◌≡◌, sym, ap}
use mathlib.Core.List.{List, [], ◌++◌}
use mathlib.Core.Logic.{◌⊎◌, inl, inr, ⊎_elim}
use Rattle.std.specs.Prelude.{Ok, Err}
use Prim.Native.Nat.{ℕ, zero, suc, ◌+◌, ◌-◌, ◌*◌, ◌%◌, ◌^◌, ◌<◌, ◌≤◌}
use native.Mathlib.Omega.{arith}
use native.Mathlib.Nat.{lt_of_lt_of_le, le_refl, le_trans, mod-lt}
use lib.ListN.{length}
use lib.Bits.{bit_and, and_mask}
use lib.Pow.{pow_mono, pow_pos}
use Rattle.logic.proofs.Decide.{holds-or-not, decides_eq, decides-lt}
use Rattle.sets.specs.declared.Pair.{Pair}
use Rattle.sets.specs.Sets.{Within, size_to, size}
use Rattle.sets.proofs.Sizes.{size-grows}
use Rattle.sets.proofs.Digits.{shifted, lt-or-le}
use Rattle.sets.proofs.Words.{sub-le, sub-and, and_l, minus-zero}
use Rattle.book.specs.Limits.{exceptions}
use Rattle.masks.specs.declared.Bounds.{Bounds}
use Rattle.order.specs.Order.{Earlier, fewer, smaller, Ordered}
use Rattle.order.specs.Formula.{set_at, place_of, NextSet}
use Rattle.order.proofs.Places.{once, place-earlier}
use Rattle.order.proofs.Rule.{order-rule, inverse}
use Rattle.meaning.specs.Books.{Book}
use Rattle.meaning.specs.Order as order
use Rattle.meaning.specs.Order.{Before, Point, LawfulPoint, AllLater}
use Rattle.meaning.proofs.Parts.{Part, part_none, part_join, part-all, part-there}
use Rattle.walk.specs.declared.Position.{Position}
use Rattle.walk.specs.Walks.{Passed, AtPlace, Spanned, Stops, Skipping, Skipped, RuledOut}
use Rattle.marking.proofs.Steps.{within_all}

-- A set comes earlier than one that contains it.
subset-earlier : (a b : ℕ) → Within a b → (a ≡ b → ⊥) → Earlier a b
unfolding size
subset-earlier a b f n =
    let x = size-grows 64 a b f in
    let y = sub-le a b f in
    ⊎_elim (λ l. fewer l) (λ l. smaller (omega arith) (omega arith)) (lt-or-le (size_to 64 a) (size_to 64 b))

-- A pair with an earlier set comes before.
pub earlier-before : (p q : Pair) → Earlier p.taken q.taken → Before p q
earlier-before p q (fewer l) = order.fewer l
earlier-before p q (smaller e l) = order.smaller e l

module _ (x : ℕ) (small : x ≤ exceptions) where
  rule : Ordered x (set_at x)
  rule = order-rule x (omega arith)

  -- ---- the set at a place
  module _ (p : Position) (s : AtPlace x p) (h : p.place < 2 ^ x) where
    pub set-inside : p.set < 2 ^ x
    set-inside = rw (s.is h) (rule.below p.place h)

    pub position-next : (u : ℕ) → NextSet x p.set u → AtPlace x (record { place = p.place + 1; set = u })
    position-next u f = record { to = omega arith; is = λ l. sym (f.next p.place l (sym (s.is h))) }

  -- The place of a set, by its formula.
  pub place-there : (t place : ℕ) → t < 2 ^ x → place ≡ place_of x t → (place < 2 ^ x) × (set_at x place ≡ t)
  place-there t place h e = rw e ((inverse x (omega arith)).0 t h)

  module _ (root : Bounds) (marks : List ℕ) (p : Position) where
    pub skipping-none : AtPlace x p → Skipping x root marks p p
    skipping-none s = record { from = le_refl _; stands = s; ruled_out = λ i a b. absurd (omega arith) }

    module _ (r : Position) (s : Skipping x root marks p r) where
      pub skipping-more : r.place < 2 ^ x → RuledOut root marks r.set → (u : ℕ) → NextSet x r.set u → Skipping x root marks p (record { place = r.place + 1; set = u })
      skipping-more h f u n = record {
        from = omega (arith, s.from);
        stands = position-next r s.stands h u n;
        ruled_out = λ i a b. ⊎_elim (λ l. s.ruled_out i a l) (λ l. let e : i ≡ r.place = omega arith in rw (e, ← s.stands.is h) f) (lt-or-le i r.place);
      }

      pub stopped : (past : ℕ) → r.place < past → (RuledOut root marks r.set → ⊥) → Skipped x past root marks p (Ok r)
      stopped past l o = record {
        some = λ u e. let f : r ≡ u = cc in rw f at here;
        none = λ u e. cc;
      }
        where
          here : Stops x past root marks p r
          here = record { over = s; to = l; undecided = o }

      pub skipped_all : (past : ℕ) → past ≤ r.place → Skipped x past root marks p (Err r)
      skipped_all past l =
          let here : (past ≤ r.place) × Skipping x root marks p r = (l, s) in
          record { some = λ u e. cc; none = λ u e. let f : r ≡ u = cc in rw f at here }

  -- ---- the places passed
  -- A set at an earlier place.
  pub at-or-past : (j k : ℕ) → j ≤ k → k < 2 ^ x → (p q : Pair) → Passed x j p → set_at x k ≡ q.taken → Before p q
  at-or-past zero k l h p q s e = absurd s
  at-or-past (suc j) k l h p q (inl s) e = at-or-past j k (omega arith) h p q s e
  at-or-past (suc j) k l h p q (inr d) e = earlier-before p q (rw (d, e) at (rule.rises j k (omega arith) h))

  passed-at : (i j : ℕ) (p : Pair) → i < j → set_at x i ≡ p.taken → Passed x j p
  passed-at i zero p l e = absurd (omega arith)
  passed-at i (suc j) p l e = ⊎_elim (λ x. inl (passed-at i j p x e)) (λ x. inr (rw x at e)) (last i j l)
    where
      last : (i j : ℕ) → i < suc j → (i < j) ⊎ (i ≡ j)
      last i j l = ⊎_elim (λ e. inr e) (λ n. inl (omega arith)) (holds-or-not (decides_eq i j))

  -- All places have every pair whose exceptions the limits allow.
  passed-all : (p : Pair) → p.taken < 2 ^ x → Passed x (2 ^ x) p
  passed-all p h = let k = rule.present p.taken h in passed-at k.0 (2 ^ x) p k.1 k.2

  passed-or-not : (j : ℕ) (p : Pair) → Passed x j p ⊎ (Passed x j p → ⊥)
  passed-or-not zero p = inr (λ s. s)
  passed-or-not (suc j) p =
      ⊎_elim (λ s. inl (inl s)) (λ n. ⊎_elim (λ e. inl (inr e)) (λ m. inr (λ s. ⊎_elim n m s)) (holds-or-not (decides_eq (set_at x j) p.taken))) (passed-or-not j p)

  -- A set whose place has not been passed comes after one whose place has.
  rest-after : (j : ℕ) (p q : Pair) → Passed x j p → (Passed x j q → ⊥) × (q.taken < 2 ^ x) → Before p q
  rest-after j p q s n =
      let k = rule.present q.taken n.1 in
      ⊎_elim (λ l. absurd (n.0 (passed-at k.0 j q l k.2))) (λ l. at-or-past j k.0 l k.1 p q s k.2) (lt-or-le k.0 j)

  rest-or-not : (j : ℕ) (q : Pair) → ((Passed x j q → ⊥) × (q.taken < 2 ^ x)) ⊎ ((Passed x j q → ⊥) × (q.taken < 2 ^ x) → ⊥)
  rest-or-not j q =
      ⊎_elim (λ s. inr (λ n. n.0 s)) (λ n. ⊎_elim (λ l. inl (n, l)) (λ m. inr (λ x. m x.1)) (holds-or-not (decides-lt q.taken (2 ^ x)))) (passed-or-not j q)

  -- A proper subset of the set at place j stands at an earlier place.
  pub subset-place : (j : ℕ) → j < 2 ^ x → (u : ℕ) → Within u (set_at x j) → (u ≡ set_at x j → ⊥) → (i : ℕ) × (i < j) × (set_at x i ≡ u)
  subset-place j h u f n =
      let k = rule.present u (let x = sub-le u (set_at x j) f in let y = rule.below j h in omega arith) in
      (k.0, place-earlier {w = x} {f = set_at x} rule k.0 j k.1 (rw k.2 (subset-earlier u (set_at x j) f n)), k.2)

  -- ---- the places of the root's sets
  -- A set that stands earlier than a set does not contain it; one that stands later is not within it.
  contains-later : (i k : ℕ) → i < 2 ^ x → k < 2 ^ x → Within (set_at x k) (set_at x i) → k ≤ i
  contains-later i k hi hk f =
      ⊎_elim (λ e. let d = once {w = x} {f = set_at x} rule k i hk hi e in omega arith)
      (λ n. let s = subset-place i hi (set_at x k) f n in let d = once {w = x} {f = set_at x} rule s.0 k (omega (arith, s.1)) hk s.2 in omega (arith, s.1))
      (holds-or-not (decides_eq (set_at x k) (set_at x i)))

  -- The set of all x exceptions, as a shift makes it.
  abbrev full : ℕ
  full = 1 * 2 ^ x % 2 ^ 64 - 1

  full_is : full ≡ 2 ^ x - 1
  full_is = ap (λ (m : ℕ). m - 1) (shifted x (omega arith))

  pub full-there : 1 ≤ 1 * 2 ^ x % 2 ^ 64
  full-there = rw (shifted x (omega arith)) (pow_pos x)

  pub own-part : (a : ℕ) → bit_and a full < 2 ^ x
  own-part a = rw (full_is, and_mask a x) (mod-lt a (pow_pos x))

  module _ (root : Bounds) (lo hi : ℕ) (el : lo ≡ place_of x (bit_and root.lo.taken full)) (eh : hi ≡ place_of x (bit_and root.hi.taken full)) where
    upper-there : (hi < 2 ^ x) × (set_at x hi ≡ bit_and root.hi.taken full)
    upper-there = place-there (bit_and root.hi.taken full) hi (own-part root.hi.taken) eh

    pub past_fits : hi + 1 < 2 ^ 64
    past_fits = let h = pow_mono small in omega (arith, upper-there.0)

    pub span-is : Spanned x root (record { first = lo; past = hi + 1 })
    span-is = record {
      before = λ i l h z.
          let k = place-there (bit_and root.lo.taken full) lo (own-part root.lo.taken) el in
          let m = contains-later i lo h k.0 (rw k.1 (λ d. le_trans (and_l root.lo.taken full d) (minus-zero root.lo.taken (set_at x i) z d))) in
          omega arith;
      after = λ i l h z.
          let w = rw (← full_is) at (within_all x (set_at x i) (rule.below i h)) in
          let m = contains-later hi i upper-there.0 h (rw upper-there.1 (sub-and root.hi.taken full (set_at x i) (minus-zero (set_at x i) root.hi.taken z) w)) in
          omega arith;
      to = omega (arith, upper-there.0);
    }

  module _ (b : Book) (from : Point) where
    -- Before the first place there is nothing.
    pub none_yet : Part b from (Passed x zero) []
    none_yet = part_none b from (Passed x zero) (λ p r l s. s)

    -- One place more.
    pub one_more : (j : ℕ) (xs ys : List Pair) → j < 2 ^ x → Part b from (Passed x j) xs → Part b from (λ p. set_at x j ≡ p.taken) ys → Part b from (Passed x (suc j)) (xs ++ ys)
    one_more j xs ys h s t = part_join b from (Passed x j) (λ p. set_at x j ≡ p.taken) xs ys s t (at-or-past j j (le_refl j) h)

    -- All places have been passed.
    pub all-places : (few : length b.exceptions ≤ x) (xs : List Pair) → Part b from (Passed x (2 ^ x)) xs → AllLater b from xs
    all-places few xs s = part-all b from (Passed x (2 ^ x)) xs (λ p r. passed-all p (lt_of_lt_of_le r.view.lawful.exceptions (pow_mono few))) s

    -- Where the walk stops early, the resolutions at the places that are left follow those at the places passed.
    pub cut_short : (few : length b.exceptions ≤ x) → LawfulPoint b from → (j : ℕ) (xs : List Pair) → Part b from (Passed x j) xs → (ys : List Pair) × AllLater b from (xs ++ ys)
    cut_short few l j xs s =
        let t = part-there b from (λ p. (Passed x j p → ⊥) × (p.taken < 2 ^ x)) (rest-or-not j) l in (
          t.0,
          part-all b from (λ p. Passed x j p ⊎ ((Passed x j p → ⊥) × (p.taken < 2 ^ x))) (xs ++ t.0)
              (λ p r. ⊎_elim (λ x. inl x) (λ n. inr (n, lt_of_lt_of_le r.view.lawful.exceptions (pow_mono few))) (passed-or-not j p))
              (part_join b from (Passed x j) (λ p. (Passed x j p → ⊥) × (p.taken < 2 ^ x)) xs t.0 s t.1 (rest-after j)),
        )
