-- The computed answer is the answer: the order's test decides the order on lawful pairs, and the fold keeps the first.
use mathlib.Core.Path.{◌≡◌, refl, sym, ap, ◌∙◌}
use mathlib.Core.Bool.{Bool, true, false}
use mathlib.Core.List.{List, [], ◌∷◌}
use mathlib.Core.Logic.{◌⊎◌, inl, inr, ⊎_elim, ◌↔◌}
use Prim.Native.Nat.{ℕ, zero, suc, ◌+◌, ◌<◌, ◌≤◌}
use native.Mathlib.Nat.{eq-or-lt_of_le}
use native.Mathlib.Omega.{arith}
use lib.Dec.{eqb, ltb}
use borrow.Author.Tests.{lt-ltb, eq-eqb}
use Rattle.logic.specs.Lists.{Among, Every}
use Rattle.logic.specs.Tests.{Decides}
use Rattle.logic.proofs.Decide.{clash, decided}
use Rattle.logic.proofs.Members.{every-at, every_of}
use Rattle.sets.specs.Sets.{size}
use Rattle.sets.specs.declared.Pair.{Pair}
use Rattle.sets.proofs.Digits.{lt-or-le}
use Rattle.sets.proofs.Words.{member-past}
use Rattle.meaning.specs.Books.{Book, Lawful}
use Rattle.meaning.specs.Order.{value_of, value, Before, fewer, smaller, differs, Point, start, at, LawfulPoint, Later}
use Rattle.meaning.specs.Twins.Verdicts.{resolutions}
use Rattle.meaning.specs.Twins.Tables.{differs_from, before}
use Rattle.meaning.specs.Listings.{Answer, found, end, refused, FirstLater}
use Rattle.meaning.specs.Twins.Next.{later, earlier, first_of, next_from}
use Rattle.meaning.proofs.Twins.{resolutions-all, resolutions-only}
use Rattle.meaning.proofs.Ordered.{before-irreflexive, before-transitive, before-total}
use Rattle.meaning.proofs.Shown.{before-sound}

-- ---- the test of the order
pub value-past : (b : Book) (p : Pair) → Lawful b p → (i : ℕ) → b.statements < i → value p i ≡ 0
unfolding value value_of
value-past b p l i h = rw (member-past p.held b.statements i l.held (omega arith), member-past p.denied b.statements i l.denied (omega arith))

step-yes : (x y r : Bool) → x ≡ true → (elim x as (λ _. Bool) [ true ↦ true | false ↦ elim y [ true ↦ r | false ↦ false ] ]) ≡ true
step-yes true y r e = refl
step-yes false y r e = absurd (clash e)

step-on : (x y r : Bool) → y ≡ true → r ≡ true → (elim x as (λ _. Bool) [ true ↦ true | false ↦ elim y [ true ↦ r | false ↦ false ] ]) ≡ true
step-on true y r e f = refl
step-on false true r e f = f
step-on false false r e f = absurd (clash e)

differs-complete : (p q : Pair) (i : ℕ) → value p i < value q i → (k j : ℕ) → ((m : ℕ) → j ≤ m → m < i → value p m ≡ value q m) → j ≤ i → i < j + k → differs_from k j p q ≡ true
unfolding differs_from
differs-complete p q i h zero j s u w = absurd (omega arith)
differs-complete p q i h (suc k) j s u w = go (eq-or-lt_of_le u) (differs-complete p q i h k (suc j) (λ m x y. s m (omega arith) y))
  where
    go : (j ≡ i) ⊎ (j < i) → (suc j ≤ i → i < suc j + k → differs_from k (suc j) p q ≡ true)
        → (elim (ltb (value p j) (value q j)) as (λ _. Bool) [ true ↦ true | false ↦ elim (eqb (value p j) (value q j)) [ true ↦ differs_from k (suc j) p q | false ↦ false ] ]) ≡ true
    go (inl e) ih = step-yes (ltb (value p j) (value q j)) (eqb (value p j) (value q j)) (differs_from k (suc j) p q) (lt-ltb (value p j) (value q j) (rw e h))
    go (inr l) ih = step-on (ltb (value p j) (value q j)) (eqb (value p j) (value q j)) (differs_from k (suc j) p q) (eq-eqb (value p j) (value q j) (s j (omega arith) l)) (ih l (omega arith))

pub before-complete : (b : Book) (p q : Pair) → Lawful b p → Lawful b q → Before p q → before b.statements p q ≡ true
unfolding before
before-complete b p q l m (fewer h) = first _ _ (lt-ltb _ _ h)
  where
    first : (x r : Bool) → x ≡ true → (elim x as (λ _. Bool) [ true ↦ true | false ↦ r ]) ≡ true
    first true r e = refl
    first false r e = absurd (clash e)
before-complete b p q l m (smaller e h) =
    go (ltb (size p.taken) (size q.taken)) (eqb (size p.taken) (size q.taken)) (ltb p.taken q.taken) (elim (eqb p.taken q.taken) [ true ↦ differs_from b.statements 1 p q | false ↦ false ]) (eq-eqb _ _ e) (lt-ltb _ _ h)
  where
    go : (x y u r : Bool) → y ≡ true → u ≡ true → (elim x as (λ _. Bool) [ true ↦ true | false ↦ elim y [ false ↦ false | true ↦ elim u [ true ↦ true | false ↦ r ] ] ]) ≡ true
    go true y u r ey eu = refl
    go false true true r ey eu = refl
    go false false u r ey eu = absurd (clash ey)
    go false true false r ey eu = absurd (clash eu)
before-complete b p q l m (differs e i z s h) =
    go (ltb (size p.taken) (size q.taken)) (eqb (size p.taken) (size q.taken)) (ltb p.taken q.taken) (eqb p.taken q.taken) (differs_from b.statements 1 p q) (eq-eqb _ _ (ap size e)) (eq-eqb _ _ e) (differs-complete p q i h b.statements 1 (λ j x y. s j x y) z (in-range (lt-or-le b.statements i)))
  where
    in-range : (b.statements < i) ⊎ (i ≤ b.statements) → i < 1 + b.statements
    in-range (inl g) = absurd (omega (arith, value-past b p l i g, value-past b q m i g))
    in-range (inr g) = omega arith

    go : (x y u v r : Bool) → y ≡ true → v ≡ true → r ≡ true
        → (elim x as (λ _. Bool) [ true ↦ true | false ↦ elim y [ false ↦ false | true ↦ elim u [ true ↦ true | false ↦ elim v [ true ↦ r | false ↦ false ] ] ] ]) ≡ true
    go true y u v r ey ev er = refl
    go false false u v r ey ev er = absurd (clash ey)
    go false true true v r ey ev er = refl
    go false true false false r ey ev er = absurd (clash ev)
    go false true false true r ey ev er = er

pub decides-before : (b : Book) (p q : Pair) → Lawful b p → Lawful b q → Decides (before b.statements p q) (Before p q)
decides-before b p q l m = decided (before-sound b.statements p q) (before-complete b p q l m)

pub decides-later : (b : Book) (from : Point) → LawfulPoint b from → (q : Pair) → Lawful b q → Decides (later b.statements from q) (Later from q)
unfolding later
decides-later b start l q m = decided (λ e. tt) (λ t. refl)
decides-later b (at p) l q m = decides-before b p q l m

-- ---- the first of a list
module _ (b : Book) (from : Point) (l : LawfulPoint b from) where
  -- The answer is the first of the list that is later than the point.
  abbrev FirstIn : List Pair → Answer → Type 0
  FirstIn ps (found p) = Among p ps × Later from p × ((q : Pair) → Among q ps → Later from q → (p ≡ q) ⊎ Before p q)
  FirstIn ps end = (q : Pair) → Among q ps → Later from q → ⊥
  FirstIn ps (refused k line) = ⊥

  among-lawful : (ps : List Pair) → Every (Lawful b) ps → (q : Pair) → Among q ps → Lawful b q
  among-lawful ps ls q m = every-at (Lawful b) q ps ls m

  keep-found : (p : Pair) (ps : List Pair) → Every (Lawful b) (p ∷ ps) → Later from p → (x : Answer) → FirstIn ps x → FirstIn (p ∷ ps) (earlier b.statements p x)
  unfolding earlier
  keep-found p ps ls t end f = (inl refl, t, λ q m u. ⊎_elim (λ e. inl e) (λ n. absurd (f q n u)) m)
  keep-found p ps ls t (refused k line) f = absurd f
  keep-found p ps ls t (found q) f = go (before b.statements q p) refl
    where
      d : Decides (before b.statements q p) (Before q p)
      d = decides-before b q p (among-lawful ps ls.1 q f.0) ls.0

      beyond : (r : Pair) → Before p q ⊎ (p ≡ q) ⊎ Before q p → (Before q p → ⊥) → (q ≡ r) ⊎ Before q r → (p ≡ r) ⊎ Before p r
      beyond r (inl x) n (inl e) = inr (rw e at x)
      beyond r (inl x) n (inr y) = inr (before-transitive p q r x y)
      beyond r (inr (inl e)) n (inl g) = inl (e ∙ g)
      beyond r (inr (inl e)) n (inr y) = inr (rw e y)
      beyond r (inr (inr x)) n o = absurd (n x)

      go : (y : Bool) → before b.statements q p ≡ y → FirstIn (p ∷ ps) (elim y as (λ _. Answer) [ true ↦ found q | false ↦ found p ])
      go true e = (inr f.0, f.1, λ r m u. ⊎_elim (λ g. inr (rw g at (d.yes e))) (λ n. f.2 r n u) m)
      go false e = (
        inl refl,
        t,
        λ r m u. ⊎_elim (λ g. inl g)
            (λ n. beyond r (before-total b p q ls.0 (among-lawful ps ls.1 q f.0)) (d.no e) (f.2 r n u)) m,
      )

  skip : (p : Pair) (ps : List Pair) → (Later from p → ⊥) → (x : Answer) → FirstIn ps x → FirstIn (p ∷ ps) x
  skip p ps n (found q) f = (inr f.0, f.1, λ r m u. ⊎_elim (λ g. absurd (n (rw g u))) (λ o. f.2 r o u) m)
  skip p ps n end f = λ r m u. ⊎_elim (λ g. n (rw g u)) (λ o. f r o u) m
  skip p ps n (refused k line) f = f

  first-of : (ps : List Pair) → Every (Lawful b) ps → FirstIn ps (first_of b.statements from ps)
  unfolding first_of
  first-of [] ls = λ q m u. m
  first-of (p ∷ ps) ls = go (later b.statements from p) refl (first-of ps ls.1)
    where
      go : (y : Bool) → later b.statements from p ≡ y → FirstIn ps (first_of b.statements from ps)
          → FirstIn (p ∷ ps) (elim y as (λ _. Answer) [ true ↦ earlier b.statements p (first_of b.statements from ps) | false ↦ first_of b.statements from ps ])
      go true e f = keep-found p ps ls ((decides-later b from l p ls.0).yes e) (first_of b.statements from ps) f
      go false e f = skip p ps ((decides-later b from l p ls.0).no e) (first_of b.statements from ps) f

  to-later : (x : Answer) → FirstIn (resolutions b) x → FirstLater b from x
  to-later (found p) f = (resolutions-only b p f.0, f.1, λ q r u. f.2 q (resolutions-all b q r) u)
  to-later end f = λ q r u. f q (resolutions-all b q r) u
  to-later (refused k line) f = f

  -- The computed answer is the first resolution later than the point, or End.
  pub next-is : FirstLater b from (next_from b from)
  unfolding next_from
  next-is = to-later (first_of b.statements from (resolutions b)) (first-of (resolutions b) (every_of (Lawful b) (resolutions b) (λ q m. (resolutions-only b q m).view.lawful)))

-- There is one such answer.
pub answer-one : (b : Book) (from : Point) (x y : Answer) → FirstLater b from x → FirstLater b from y → x ≡ y
answer-one b from (found p) (found q) f g = ap found (go (f.2 q g.0 g.1) (g.2 p f.0 f.1))
  where
    go : (p ≡ q) ⊎ Before p q → (q ≡ p) ⊎ Before q p → p ≡ q
    go (inl e) o = e
    go (inr x) (inl e) = sym e
    go (inr x) (inr y) = absurd (before-irreflexive p (before-transitive p q p x y))
answer-one b from (found p) end f g = absurd (g p f.0 f.1)
answer-one b from (found p) (refused k line) f g = absurd g
answer-one b from end (found q) f g = absurd (f q g.0 g.1)
answer-one b from end end f g = refl
answer-one b from end (refused k line) f g = absurd g
answer-one b from (refused k line) y f g = absurd f

-- So an answer is right exactly if it equals the computed one.
pub next-iff : (b : Book) (from : Point) → LawfulPoint b from → (x : Answer) → FirstLater b from x ↔ (x ≡ next_from b from)
next-iff b from l x = (λ f. answer-one b from x (next_from b from) f (next-is b from l), λ e. rw e (next-is b from l))
