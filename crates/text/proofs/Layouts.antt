-- Kinds of rows in line order: a rising list of kinds is the layout of how often each occurs in it, and a layout rises.
-- By induction on the counts, and within one count on the list.
use mathlib.Core.Path.{◌≡◌, refl, sym, ap, ◌∙◌}
use mathlib.Core.Bool.{Bool, true, false}
use mathlib.Core.List.{List, [], ◌∷◌, ◌++◌}
use Prim.Native.Nat.{ℕ, zero, suc, ◌+◌, ◌*◌, ◌<◌, ◌≤◌}
use native.Mathlib.Nat.{add-zero, suc-mul}
use native.Mathlib.Omega.{arith}
use lib.Dec.{eqb}
use lib.ListN.{length, get_or, replicate, get_or-append}
use borrow.Author.Tests.{eqb-true, eqb-false, eq-eqb, ne_eqb}
use Rattle.logic.specs.Tests.{pick}
use Rattle.book.specs.declared.Kind.{Kind}
use Rattle.book.specs.declared.Shape.{Shape}
use Rattle.book.specs.Kinds.{kinds, kind, none, first, last}
use Rattle.book.specs.Counts.{counts_of, all_counts, count_at, sum_to, row_numbers}
use Rattle.text.specs.Tables.{layout}

-- How often a kind occurs.
unfoldable pub occurs : ℕ → List ℕ → ℕ
occurs j [] = 0
occurs j (k ∷ ks) = pick (eqb k j) (suc (occurs j ks)) (occurs j ks)

-- Each number is below n, at least m, and at least the one before it.
abbrev pub Rising : ℕ → ℕ → List ℕ → Type 0
Rising m n [] = Unit {0}
Rising m n (k ∷ ks) = (m ≤ k) × (k < n) × Rising k n ks

pub occurs-same : (j k : ℕ) (ks : List ℕ) → k ≡ j → occurs j (k ∷ ks) ≡ suc (occurs j ks)
unfolding occurs pick
occurs-same j k ks e = rw (eq-eqb k j e)

pub occurs-other : (j k : ℕ) (ks : List ℕ) → (k ≡ j → ⊥) → occurs j (k ∷ ks) ≡ occurs j ks
unfolding occurs pick
occurs-other j k ks f = rw (ne_eqb k j f)

pub occurs-none : (j : ℕ) → occurs j [] ≡ 0
unfolding occurs
occurs-none j = refl

-- What lies below a rising list does not occur in it.
pub occurs-below : (m n j : ℕ) (ks : List ℕ) → Rising m n ks → j < m → occurs j ks ≡ 0
occurs-below m n j [] r h = occurs-none j
occurs-below m n j (k ∷ ks) r h = occurs-other j k ks (λ e. omega (arith, r.0)) ∙ occurs-below k n j ks r.2 (omega (arith, r.0))

pub rising-from : (m i n : ℕ) (ks : List ℕ) → i ≤ m → Rising m n ks → Rising i n ks
rising-from m i n [] h r = tt
rising-from m i n (k ∷ ks) h r = (omega (arith, r.0), r.1, r.2)

rising-up : (i n : ℕ) (ks : List ℕ) → Rising i n ks → occurs i ks ≡ 0 → Rising (suc i) n ks
rising-up i n [] r e = tt
rising-up i n (k ∷ ks) r e = go (eqb k i) refl
  where
    go : (b : Bool) → eqb k i ≡ b → Rising (suc i) n (k ∷ ks)
    go true p = absurd (omega (arith, e, occurs-same i k ks (eqb-true k i p)))
    go false p = (omega (arith, r.0, eqb-false k i p), r.1, r.2)

-- ---- repeats in front
pub occurs-repeat : (c i j : ℕ) (ks : List ℕ) → (i ≡ j → ⊥) → occurs j (replicate c i ++ ks) ≡ occurs j ks
occurs-repeat zero i j ks f = refl
occurs-repeat (suc c) i j ks f = occurs-other j i (replicate c i ++ ks) f ∙ occurs-repeat c i j ks f

pub occurs-times : (c i : ℕ) (ks : List ℕ) → occurs i (replicate c i ++ ks) ≡ c + occurs i ks
occurs-times zero i ks = omega arith
occurs-times (suc c) i ks = occurs-same i i (replicate c i ++ ks) refl ∙ ap suc (occurs-times c i ks) ∙ omega arith

cons_same : (k i : ℕ) (ks us : List ℕ) → k ≡ i → ks ≡ us → k ∷ ks ≡ i ∷ us
cons_same k i ks us e f = cc

-- A rising list from i on begins with all the i's that occur in it.
split-first : (c i n : ℕ) (ks : List ℕ) → Rising i n ks → occurs i ks ≡ c → (us : List ℕ) × (ks ≡ replicate c i ++ us) × Rising (suc i) n us
split-first zero i n ks r e = (ks, refl, rising-up i n ks r e)
split-first (suc c) i n [] r e = absurd (omega (arith, e, occurs-none i))
split-first (suc c) i n (k ∷ ks) r e =
    let q = first-is (eqb k i) refl in
    let ih = split-first c i n ks (rw q at r.2) (omega (arith, e, occurs-same i k ks q)) in
    (ih.0, cons_same k i ks (replicate c i ++ ih.0) q ih.1, ih.2)
  where
    first-is : (b : Bool) → eqb k i ≡ b → k ≡ i
    first-is true p = eqb-true k i p
    first-is false p = absurd (omega (arith, r.0, eqb-false k i p, e, occurs-other i k ks (eqb-false k i p), occurs-below k n i ks r.2 (omega (arith, r.0, eqb-false k i p))))

pub rising-layout : (cs : List ℕ) (i n : ℕ) (ks : List ℕ) → n ≡ i + length cs → Rising i n ks → ((j : ℕ) → j < length cs → occurs (i + j) ks ≡ get_or cs j 0) → ks ≡ layout i cs
unfolding layout
rising-layout [] i n [] e r o = refl
rising-layout [] i n (k ∷ ks) e r o = absurd (omega (arith, r.0, r.1))
rising-layout (c ∷ cs) i n ks e r o =
    let s = split-first c i n ks r (ap (λ (m : ℕ). occurs m ks) (sym (add-zero i)) ∙ o 0 (omega arith)) in
    let ih = rising-layout cs (suc i) n s.0 (omega arith) s.2 (λ j h. rest s.0 s.1 j h) in
    s.1 ∙ ap (λ (l : List ℕ). replicate c i ++ l) ih
  where
    rest : (us : List ℕ) → ks ≡ replicate c i ++ us → (j : ℕ) → j < length cs → occurs (suc i + j) us ≡ get_or cs j 0
    rest us e j h =
        let q : suc i + j ≡ i + suc j = omega arith in
        rw q (sym (occurs-repeat c i (i + suc j) us (λ z. omega arith)) ∙ (ap (occurs (i + suc j)) (sym e) ∙ o (suc j) (omega arith)))

-- ---- sums over rows
-- The sum over kinds of a number that each has.
unfoldable pub sum_by : (Kind → ℕ) → List ℕ → ℕ
sum_by f [] = 0
sum_by f (k ∷ ks) = f (kind k) + sum_by f ks

-- How many numbers rows of these kinds have.
abbrev pub widths : List ℕ → ℕ
widths ks = sum_by (λ x. x.numbers) ks

pub sum-append : (f : Kind → ℕ) (ks js : List ℕ) → sum_by f (ks ++ js) ≡ sum_by f ks + sum_by f js
unfolding sum_by
sum-append f [] js = omega arith
sum-append f (k ∷ ks) js = rw (sum-append f ks js) (omega arith)

sum-repeat : (f : Kind → ℕ) (c k : ℕ) → sum_by f (replicate c k) ≡ c * f (kind k)
unfolding sum_by
sum-repeat f zero k = omega arith
sum-repeat f (suc c) k = rw (sum-repeat f c k, suc-mul) (omega arith)

-- The rows of the kinds from place i on come after those of the kinds before it.
pub layout-sum : (f : Kind → ℕ) (s : Shape) (cs : List ℕ) (i : ℕ) → ((j : ℕ) → j < length cs → get_or cs j 0 ≡ count_at s (i + j)) → sum_to f s i + sum_by f (layout i cs) ≡ sum_to f s (i + length cs)
unfolding layout sum_by sum_to
layout-sum f s [] i h = rw (add-zero i, add-zero (sum_to f s i))
layout-sum f s (c ∷ cs) i h =
    let q : i + suc (length cs) ≡ suc i + length cs = omega arith in
    let e : c ≡ count_at s i = rw (add-zero i) at (h 0 (omega arith)) in
    let ih = layout-sum f s cs (suc i) (λ j g. let p : i + suc j ≡ suc i + j = omega arith in rw p at (h (suc j) (omega arith))) in
    rw (q, sum-append f (replicate c i) (layout (suc i) cs), sum-repeat f c i, e) (omega (arith, ih))

-- The counts of a shape by place.
pub row_counts : (s : Shape) (j : ℕ) → j < length (counts_of s) → get_or (counts_of s) j 0 ≡ count_at s (1 + j)
unfolding count_at all_counts
row_counts s j h = let q : 1 + j ≡ suc j = omega arith in rw q (sym (get_or-append (counts_of s) (1 ∷ []) 0 j h))

pub counts-long : (s : Shape) → 1 + length (counts_of s) ≡ last
unfolding counts_of
counts-long s = refl

once-first : (f : Kind → ℕ) (s : Shape) → sum_to f s 1 ≡ f (kind first)
unfolding sum_to count_at all_counts
once-first f s = omega arith

once_last : (f : Kind → ℕ) (s : Shape) → sum_to f s none ≡ sum_to f s last + f (kind last)
unfolding sum_to count_at all_counts counts_of
once_last f s = omega arith

-- All lines: B, the rows, Z.
pub all-sum : (f : Kind → ℕ) (s : Shape) → f (kind first) + sum_by f (layout 1 (counts_of s)) + f (kind last) ≡ sum_to f s none
all-sum f s =
    let l = rw (counts-long s) at (layout-sum f s (counts_of s) 1 (row_counts s)) in
    omega (arith, once-first f s, once_last f s, l)

ends-none : ((kind first).numbers ≡ 0) × ((kind last).numbers ≡ 0)
unfolding kind kinds
ends-none = (refl, refl)

pub layout-widths : (s : Shape) → widths (layout 1 (counts_of s)) ≡ row_numbers s
layout-widths s = omega (arith, all-sum (λ x. x.numbers) s, ends-none.0, ends-none.1)

-- ---- layouts
repeat-rising : (c i n : ℕ) (ks : List ℕ) → i < n → Rising i n ks → Rising i n (replicate c i ++ ks)
repeat-rising zero i n ks h r = r
repeat-rising (suc c) i n ks h r = (omega arith, h, repeat-rising c i n ks h r)

pub layout-rising : (cs : List ℕ) (i n : ℕ) → i + length cs ≤ n → Rising i n (layout i cs)
unfolding layout
layout-rising [] i n h = tt
layout-rising (c ∷ cs) i n h = repeat-rising c i n (layout (suc i) cs) (omega arith) (rising-from (suc i) i n (layout (suc i) cs) (omega arith) (layout-rising cs (suc i) n (omega arith)))

pub occurs-layout : (cs : List ℕ) (i j : ℕ) → occurs (i + j) (layout i cs) ≡ get_or cs j 0
unfolding layout
occurs-layout [] i j = occurs-none (i + j)
occurs-layout (c ∷ cs) i zero =
    rw (add-zero i) (occurs-times c i (layout (suc i) cs) ∙ rw (occurs-below (suc i) (suc i + length cs) i (layout (suc i) cs) (layout-rising cs (suc i) (suc i + length cs) (omega arith)) (omega arith)) (add-zero c))
occurs-layout (c ∷ cs) i (suc j) =
    let q : i + suc j ≡ suc i + j = omega arith in
    rw q (occurs-repeat c i (suc i + j) (layout (suc i) cs) (λ e. omega arith) ∙ occurs-layout cs (suc i) j)

-- The rows of a book.
pub rows-rising : (s : Shape) → Rising 1 last (layout 1 (counts_of s))
rows-rising s = layout-rising (counts_of s) 1 last (omega (arith, counts-long s))
