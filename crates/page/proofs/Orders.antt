-- The list of all pairs with one set of exceptions has every lawful one, ascends in the order of pairs, and what a test picks of it keeps the order.
-- By induction on the statements left: the pairs listed for one value agree before the statement and have that value there.
use Rattle.std.proofs.Common.{◌≡◌, ℕ, zero, suc, ◌+◌, ◌-◌, ◌<◌, ◌≤◌, Bool, true, false, ◌⊎◌, List, [], ◌∷◌, sym, refl, ap, ◌∙◌, inl, inr, ⊎_elim, eq-or-lt_of_le, arith}
use Rattle.logic.specs.Lists.{Among, Every}
use Rattle.logic.specs.Tests.{keep, cons_if}
use Rattle.logic.proofs.Members.{every_map, among-left, among-right}
use Rattle.sets.specs.declared.Pair.{Pair}
use Rattle.sets.specs.Sets.{size}
use Rattle.meaning.specs.Books.{Book, Lawful}
use Rattle.meaning.specs.Order.{value, Before, fewer, smaller, differs, Ascending}
use Rattle.meaning.proofs.Ordered.{before-total}
use Rattle.meaning.proofs.Next.{value-past}
use Rattle.meaning.proofs.Parts.{ascending-append}
use Rattle.page.specs.Orders.{given, tried, all_from}
use Rattle.page.proofs.Assignments.{given-taken, given-other, given-own, given-lawful, value-most}
use Rattle.page.proofs.General.{every_append, every-keep}

-- ---- pairs that agree on the first statements
-- The pair q takes the exceptions of p and has its value at each of the first j statements.
pub record Extends (j : ℕ) (p q : Pair) : Type 0 where
  pub taken : q.taken ≡ p.taken
  pub same : (i : ℕ) → 0 < i → i ≤ j → value q i ≡ value p i

extends-refl : (j : ℕ) (p : Pair) → Extends j p p
extends-refl j p = record { taken = refl; same = λ i h l. refl }

-- From a pair with a value at statement i to one with nothing settled there.
extends-given : (i j w : ℕ) (p q : Pair) → j < i → Extends i (given p i w) q → Extends j p q
extends-given i j w p q h e = record {
  taken = e.taken ∙ given-taken p i w;
  same = λ k z l. e.same k z (omega arith) ∙ given-other p i w (omega arith) k z (λ d. omega arith);
}

-- The other way: q has the value w at statement i.
extends-next : (i w : ℕ) (p q : Pair) → 0 < i → w ≤ 2 → value q i ≡ w → Extends (i - 1) p q → Extends i (given p i w) q
extends-next i w p q z h v e = record {
  taken = e.taken ∙ sym (given-taken p i w);
  same = λ k y l. ⊎_elim
      (λ (d : k ≡ i). rw d (v ∙ sym (given-own p i w z h)))
      (λ (d : k < i). e.same k y (omega arith) ∙ sym (given-other p i w z k y (λ f. omega arith)))
      (eq-or-lt_of_le l);
}

-- ---- what holds of all that are listed
every-tried : (P : Pair → Type 0) (f : Pair → List Pair) (p : Pair) (i v : ℕ) → ((w : ℕ) → Every P (f (given p i w))) → Every P (tried f p i v)
unfolding tried
every-tried P f p i zero h = tt
every-tried P f p i (suc v) h = every_append P (f (given p i (3 - suc v))) (tried f p i v) (h (3 - suc v)) (every-tried P f p i v h)

pub all-extend : (n left : ℕ) (p : Pair) → left ≤ n → Every (Extends (n - left) p) (all_from n left p)
unfolding all_from
all-extend n zero p h = (extends-refl _ p, tt)
all-extend n (suc l) p h = step (λ w. all-extend n l (given p (n - l) w) (omega arith))
  where
    step : ((w : ℕ) → Every (Extends (n - l) (given p (n - l) w)) (all_from n l (given p (n - l) w))) → Every (Extends (n - suc l) p) (all_from n (suc l) p)
    step ih =
        every-tried (Extends (n - suc l) p) (λ q. all_from n l q) p (n - l) 3
        (λ w. every_map (λ q e. extends-given (n - l) (n - suc l) w p q (omega arith) e) (all_from n l (given p (n - l) w)) (ih w))

-- Every pair listed for a value has it.
pub all-value : (n left w : ℕ) (p : Pair) → left < n → w ≤ 2 → Every (λ q. value q (n - left) ≡ w) (all_from n left (given p (n - left) w))
all-value n left w p h l =
    every_map (λ q e. e.same (n - left) (omega arith) (omega arith) ∙ given-own p (n - left) w (omega arith) l) (all_from n left (given p (n - left) w))
    (all-extend n left (given p (n - left) w) (omega arith))

-- What a value at a statement keeps holds of all that are listed.
pub all_keep : (P : Pair → Type 0) (n left : ℕ) (p : Pair) → left ≤ n → ((q : Pair) (i w : ℕ) → 0 < i → i ≤ n → P q → P (given q i w)) → P p → Every P (all_from n left p)
unfolding all_from
all_keep P n zero p h f x = (x, tt)
all_keep P n (suc left) p h f x =
    every-tried P (λ q. all_from n left q) p (n - left) 3 (λ w. all_keep P n left (given p (n - left) w) (omega arith) f (f p (n - left) w (omega arith) (omega arith) x))

pub all-lawful : (b : Book) (left : ℕ) (p : Pair) → left ≤ b.statements → Lawful b p → Every (Lawful b) (all_from b.statements left p)
all-lawful b left p h = all_keep (Lawful b) b.statements left p h (given-lawful b)

-- ---- every lawful pair is listed
pub among-tried : (f : Pair → List Pair) (p : Pair) (i w : ℕ) (q : Pair) → w ≤ 2 → Among q (f (given p i w)) → Among q (tried f p i 3)
unfolding tried
among-tried f p i zero q h m = among-left q (f (given p i 0)) _ m
among-tried f p i (suc zero) q h m = among-right q (f (given p i 0)) _ (among-left q (f (given p i 1)) _ m)
among-tried f p i (suc (suc zero)) q h m = among-right q (f (given p i 0)) _ (among-right q (f (given p i 1)) _ (among-left q (f (given p i 2)) _ m))
among-tried f p i (suc (suc (suc w))) q h m = absurd (omega arith)

-- Lawful pairs that agree on every statement are equal.
extends-all : (b : Book) (p q : Pair) → Lawful b p → Lawful b q → Extends b.statements p q → p ≡ q
extends-all b p q l m e = go (before-total b p q l m)
  where
    alike : (i : ℕ) → 0 < i → (i ≤ b.statements) ⊎ (b.statements < i) → value q i ≡ value p i
    alike i z (inl h) = e.same i z h
    alike i z (inr h) = value-past b q m i h ∙ sym (value-past b p l i h)

    same : (i : ℕ) → 0 < i → value q i ≡ value p i
    same i z = alike i z (⊎_elim (λ h. inr h) (λ h. inl h) (Rattle.sets.proofs.Digits.lt-or-le b.statements i))

    never : (r s : Pair) → r.taken ≡ s.taken → ((i : ℕ) → 0 < i → value r i ≡ value s i) → Before r s → ⊥
    never r s t a (fewer h) = let z = ap size t in omega arith
    never r s t a (smaller d h) = omega arith
    never r s t a (differs d i z u h) = omega (arith, a i z)

    go : Before p q ⊎ (p ≡ q) ⊎ Before q p → p ≡ q
    go (inl x) = absurd (never p q (sym e.taken) (λ i z. sym (same i z)) x)
    go (inr (inl d)) = d
    go (inr (inr x)) = absurd (never q p e.taken same x)

pub all_among : (b : Book) (left : ℕ) (p q : Pair) → left ≤ b.statements → Lawful b p → Lawful b q → Extends (b.statements - left) p q → Among q (all_from b.statements left p)
unfolding all_from
all_among b zero p q h l m e = inl (extends-all b p q l m (let d : b.statements - 0 ≡ b.statements = omega arith in rw d at e))
all_among b (suc left) p q h l m e =
    let i : ℕ = b.statements - left in
    let w : ℕ = value q i in
    among-tried (λ r. all_from b.statements left r) p i w q (value-most q i)
    (all_among b left (given p i w) q (omega arith) (given-lawful b p i w (omega arith) (omega arith) l) m
    (extends-next i w p q (omega arith) (value-most q i) refl (let d : b.statements - suc left ≡ i - 1 = omega arith in rw d at e)))

-- ---- the list ascends
-- Two pairs agree before statement i, and the first has the earlier value there.
earlier-value : (i : ℕ) (p q r : Pair) → 0 < i → Extends (i - 1) p q → Extends (i - 1) p r → value q i < value r i → Before q r
earlier-value i p q r z d e h = differs (d.taken ∙ sym e.taken) i z (λ j y l. d.same j y (omega arith) ∙ sym (e.same j y (omega arith))) h

module _ (f : Pair → List Pair) (p : Pair) (i : ℕ) (z : 0 < i)
    (extend : (w : ℕ) → Every (Extends i (given p i w)) (f (given p i w)))
    (ascend : (w : ℕ) → Ascending (f (given p i w))) where
  -- A pair listed for one of the last v values.
  pub record Late (v : ℕ) (q : Pair) : Type 0 where
    pub extends : Extends (i - 1) p q
    pub late : 2 < value q i + v

  of-value : (w : ℕ) (q : Pair) → w ≤ 2 → Extends i (given p i w) q → value q i ≡ w
  of-value w q h e = e.same i z (omega arith) ∙ given-own p i w z h

  tried-late : (v : ℕ) → v ≤ 3 → Every (Late v) (tried f p i v)
  unfolding tried
  tried-late zero h = tt
  tried-late (suc v) h =
      every_append (Late (suc v)) (f (given p i (3 - suc v))) (tried f p i v)
      (every_map (λ q e. record { extends = extends-given i (i - 1) (3 - suc v) p q (omega arith) e; late = omega (arith, of-value (3 - suc v) q (omega arith) e) }) (f (given p i (3 - suc v))) (extend (3 - suc v)))
      (every_map (λ q e. record { extends = e.extends; late = omega (arith, e.late) }) (tried f p i v) (tried-late v (omega arith)))

  tried-ascends : (v : ℕ) → v ≤ 3 → Ascending (tried f p i v)
  unfolding tried
  tried-ascends zero h = tt
  tried-ascends (suc v) h =
      ascending-append (f (given p i (3 - suc v))) (tried f p i v) (ascend (3 - suc v)) (tried-ascends v (omega arith))
      (every_map (λ q e. every_map
      (λ r d. earlier-value i p q r z (extends-given i (i - 1) (3 - suc v) p q (omega arith) e) d.extends (omega (arith, of-value (3 - suc v) q (omega arith) e, d.late)))
      (tried f p i v) (tried-late v (omega arith))) (f (given p i (3 - suc v))) (extend (3 - suc v)))

pub all-ascends : (n left : ℕ) (p : Pair) → left ≤ n → Ascending (all_from n left p)
unfolding all_from
all-ascends n zero p h = (tt, tt)
all-ascends n (suc left) p h =
    tried-ascends (λ q. all_from n left q) p (n - left) (omega arith) (λ w. all-extend n left (given p (n - left) w) (omega arith)) (λ w. all-ascends n left (given p (n - left) w) (omega arith)) 3 (omega arith)

-- ---- what a test picks
pub keep-ascends : (f : Pair → Bool) (xs : List Pair) → Ascending xs → Ascending (keep f xs)
unfolding keep cons_if
keep-ascends f [] a = tt
keep-ascends f (x ∷ xs) a = go (f x) (every-keep (Before x) f xs a.0) (keep-ascends f xs a.1)
  where
    go : (b : Bool) → Every (Before x) (keep f xs) → Ascending (keep f xs) → Ascending (cons_if b x (keep f xs))
    go true e ih = (e, ih)
    go false e ih = ih
