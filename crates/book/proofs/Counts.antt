-- Counts of a shape in the limits are small, and so is every sum over its lines: kind by kind, each at most as often as its limit.
use mathlib.Core.Path.{◌≡◌, refl, ap, ◌∙◌}
use mathlib.Core.Bool.{Bool, true, false}
use mathlib.Core.List.{List, ◌∷◌}
use Prim.Native.Nat.{ℕ, zero, suc, ◌+◌, ◌-◌, ◌*◌, ◌<◌, ◌≤◌}
use native.Mathlib.Nat.{add-zero, mul-le-mul_left, mul-le-mul_right}
use native.Mathlib.Numerals.{add-one}
use native.Mathlib.Omega.{arith}
use lib.Dec.{eqb, ltb, leb}
use lib.ListN.{length, get_or, drop, get_or-eq_default}
use lib.Seq.{drop-cons}
use borrow.Author.Tests.{eqb-true, eqb-false, ltb-true, ltb-false, leb-true}
use Rattle.logic.specs.Tests.{pick}
use Rattle.logic.proofs.Tests.{all-at}
use Rattle.book.specs.declared.Kind.{Kind}
use Rattle.book.specs.declared.Shape.{Shape}
use Rattle.book.specs.Limits as limit
use Rattle.book.specs.Kinds.{kinds, kind, unknown, bytes, row_once, first, last, plain, alternative, exception, preference, conditional, none, widest, most}
use Rattle.book.specs.Counts.{counts_of, front_of, all_counts, count_at, sum_to, numbers_each, InLimits}

pub many : length kinds ≡ none
unfolding kinds
many = refl

-- ---- the counts of a shape in the limits
module _ (s : Shape) (l : InLimits s) where
  pub plain_in : s.plain ≤ limit.plain
  unfolding count_at all_counts counts_of kind kinds
  plain_in = l.counts plain

  pub exceptions-in : s.exceptions ≤ limit.exceptions
  unfolding count_at all_counts counts_of kind kinds
  exceptions-in = l.counts exception

  pub preferences-in : s.preferences ≤ limit.preferences
  unfolding count_at all_counts counts_of kind kinds
  preferences-in = l.counts preference

  pub conditionals-in : s.conditionals ≤ limit.conditionals
  unfolding count_at all_counts counts_of kind kinds
  conditionals-in = l.counts conditional

  pub alternatives-in : s.alternatives ≤ limit.alternatives
  unfolding count_at all_counts counts_of kind kinds
  alternatives-in = l.counts alternative

-- The numbers before the rows of a table are small.
pub front-small : (s : Shape) → InLimits s → (i : ℕ) → get_or (front_of s) i 0 < 1000
unfolding front_of
front-small s l zero = omega (arith, l.statements)
front-small s l (suc zero) = omega (arith, plain_in s l)
front-small s l (suc (suc zero)) = omega (arith, exceptions-in s l)
front-small s l (suc (suc (suc zero))) = omega (arith, preferences-in s l)
front-small s l (suc (suc (suc (suc zero)))) = omega (arith, conditionals-in s l)
front-small s l (suc (suc (suc (suc (suc zero))))) = omega (arith, alternatives-in s l)
front-small s l (suc (suc (suc (suc (suc (suc i)))))) = omega arith

-- A shape is in the limits if its n and its counts of rows are: B and Z stand once.
lines_long : (s : Shape) → length (all_counts s) ≡ none
unfolding all_counts counts_of
lines_long s = refl

once-in : (s : Shape) → (count_at s first ≤ (kind first).limit) × (count_at s last ≤ (kind last).limit)
unfolding count_at all_counts counts_of kind kinds
once-in s = (omega arith, omega arith)

none_in : (s : Shape) (k : ℕ) → none ≤ k → count_at s k ≡ 0
unfolding count_at
none_in s k h = get_or-eq_default (all_counts s) 0 {n = k} (rw (lines_long s) h)

pub limits-from : (s : Shape) → 1 ≤ s.statements → s.statements ≤ limit.statements → ((k : ℕ) → first < k → k < last → count_at s k ≤ (kind k).limit) → InLimits s
limits-from s a b w = record { some_statement = a; statements = b; counts = λ k. go k (ltb first k) (ltb k last) (eqb k last) refl refl refl }
  where
    go : (k : ℕ) (x y z : Bool) → ltb first k ≡ x → ltb k last ≡ y → eqb k last ≡ z → count_at s k ≤ (kind k).limit
    go k false y z p q r = let e : k ≡ first = omega (arith, ltb-false first k p) in rw e (once-in s).0
    go k true true z p q r = w k (ltb-true first k p) (ltb-true k last q)
    go k true false true p q r = let e : k ≡ last = eqb-true k last r in rw e (once-in s).1
    go k true false false p q r = omega (arith, none_in s k (omega (arith, ltb-false k last q, eqb-false k last r)))

-- ---- sums over the lines
most-is : (f : Kind → ℕ) (x : Kind) (xs : List Kind) → most f (x ∷ xs) ≡ x.limit * f x + most f xs
unfolding most
most-is f x xs = refl

-- The kinds from place k on, each as often as it may.
pub most-from : (f : Kind → ℕ) (k : ℕ) → k < none → most f (drop k kinds) ≡ (kind k).limit * f (kind k) + most f (drop (suc k) kinds)
unfolding kind
most-from f k h = rw (drop-cons kinds k unknown (rw many h)) (most-is f (get_or kinds k unknown) (drop (suc k) kinds))

-- The sum so far and the most that the other kinds may add are not more than the most of all.
pub sum-most : (f : Kind → ℕ) (s : Shape) (k : ℕ) → InLimits s → k ≤ none → sum_to f s k + most f (drop k kinds) ≤ most f kinds
unfolding sum_to
sum-most f s zero l h = omega arith
sum-most f s (suc k) l h = omega (arith, sum-most f s k l (omega arith), most-from f k (omega arith), mul-le-mul_right (f (kind k)) (l.counts k))

pub sum-next : (f : Kind → ℕ) (s : Shape) (k n c y : ℕ) → n ≡ sum_to f s k → c ≡ count_at s k → y ≡ f (kind k) → n + c * y ≡ sum_to f s (k + 1)
unfolding sum_to
sum-next f s k n c y e ec ey = rw (e, ec, ey, add-one k)

-- A sum over fewer kinds is not more than the sum over all.
sum_step : (f : Kind → ℕ) (s : Shape) (k j : ℕ) → sum_to f s k ≤ sum_to f s (k + j)
unfolding sum_to
sum_step f s k zero = rw (add-zero k) (omega arith)
sum_step f s k (suc j) = let q : k + suc j ≡ suc (k + j) = omega arith in rw q (omega (arith, sum_step f s k j))

pub sum-up : (f : Kind → ℕ) (s : Shape) (k : ℕ) → k ≤ none → sum_to f s k ≤ sum_to f s none
sum-up f s k h = let q : k + (none - k) ≡ none = omega arith in rw q at (sum_step f s k (none - k))

-- What is added stays small.
pub sum-small : (f : Kind → ℕ) (s : Shape) (k n c y : ℕ) → InLimits s → k < none → n ≡ sum_to f s k → c ≡ count_at s k → y ≡ f (kind k) → n + c * y ≤ most f kinds
sum-small f s k n c y l h e ec ey = omega (arith, sum-next f s k n c y e ec ey, add-one k, sum-most f s (k + 1) l (omega arith))

pub rows-most : most row_once kinds ≤ 100000
unfolding most kinds row_once pick
rows-most = omega arith

pub numbers-most : most numbers_each kinds ≤ 100000
unfolding most kinds
numbers-most = omega arith

pub bytes-most : most bytes kinds ≤ 100000
unfolding most kinds bytes
bytes-most = omega arith

hundreds-most : most (λ x. 100) kinds ≤ 100000
unfolding most kinds
hundreds-most = omega arith

-- The same of what is not more than 100 for each line.
pub sum-hundreds : (s : Shape) (k n c y : ℕ) → n ≤ sum_to (λ x. 100) s k → c ≡ count_at s k → y ≤ 100 → n + c * y ≤ sum_to (λ x. 100) s (k + 1)
unfolding sum_to
sum-hundreds s k n c y h e g = rw (add-one k, ← e) (omega (arith, h, mul-le-mul_left c g))

pub hundreds-small : (s : Shape) (k : ℕ) → InLimits s → k < none → sum_to (λ x. 100) s (k + 1) ≤ 100000
hundreds-small s k l h = omega (arith, add-one k, sum-most (λ x. 100) s (k + 1) l (omega arith), hundreds-most)

-- All lines of a book in the limits come to no more than all that a book may have.
pub sum-all : (f : Kind → ℕ) (s : Shape) → InLimits s → sum_to f s none ≤ most f kinds
sum-all f s l = omega (arith, sum-most f s none l (omega arith))

pub sum-none : (f : Kind → ℕ) (s : Shape) → 0 ≡ sum_to f s 0
unfolding sum_to
sum-none f s = refl

pub sum-end : (f : Kind → ℕ) (s : Shape) (i k n : ℕ) → n ≡ sum_to f s i → i ≤ k → k ≤ i → n ≡ sum_to f s k
sum-end f s i k n e h g = let q : i ≡ k = omega arith in e ∙ ap (sum_to f s) q

-- ---- a kind
-- No line is wide.
pub narrow : (k : ℕ) → k < none → (kind k).fields ≤ widest
unfolding kinds kind unknown
narrow k h = leb-true (kind k).fields widest (all-at (λ (j : ℕ). leb (kind j).fields widest) none k refl h)

-- Nor does it give many numbers to the table.
pub numbers-narrow : (k : ℕ) → k < none → (kind k).numbers ≤ widest
unfolding kinds kind unknown
numbers-narrow k h = leb-true (kind k).numbers widest (all-at (λ (j : ℕ). leb (kind j).numbers widest) none k refl h)

pub bytes-narrow : (k : ℕ) → k < none → bytes (kind k) ≤ 100
unfolding bytes
bytes-narrow k h = omega (arith, narrow k h)

pub kind-small : (x : Kind) (k : ℕ) → x ≡ kind k → k < none → x.fields ≤ widest
kind-small x k e h = rw e (narrow k h)

pub line-bytes-is : (x : Kind) (k : ℕ) → x ≡ kind k → 2 + 4 * x.fields ≡ bytes (kind k)
unfolding bytes
line-bytes-is x k e = rw e

pub once-small : (x : Kind) → row_once x ≤ 1
unfolding row_once pick
once-small x = go x.row
  where
    go : (b : Bool) → pick b 1 0 ≤ 1
    go true = omega arith
    go false = omega arith

pub count-is : (s : Shape) (k : ℕ) (cs : List ℕ) → cs ≡ all_counts s → get_or cs k 0 ≡ count_at s k
unfolding count_at
count-is s k cs e = rw e
