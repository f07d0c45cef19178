-- The sets of w exceptions stand in the order of document 01: `order-rule`, for every width up to 64. It is proved from the counts, by induction on the
-- width: the sets of one size rise by number and are all there (`lists`), and together the sizes have as many places as there are sets.
use mathlib.Core.Path.{◌≡◌, refl, sym, ap, subst, ◌∙◌}
use mathlib.Core.Logic.{⊎_elim}
use Prim.Native.Nat.{ℕ, zero, suc, ◌+◌, ◌-◌, ◌*◌, ◌%◌, ◌^◌, ◌<◌, ◌≤◌}
use native.Mathlib.Omega.{arith}
use lib.Pow.{high, low}
use Rattle.logic.proofs.Decide.{holds, fails, decides-lt, decides_eq, holds-or-not}
use Rattle.sets.specs.Sets.{size_to, size}
use Rattle.sets.proofs.Digits.{bit-over, bit-mod, lt-or-le}
use Rattle.sets.proofs.Sizes.{size_above, size-narrow, size-zero, size-mod, size-with, size-most}
use Rattle.order.specs.Formula.{count, count_below, of_size, from_size, set_at, place_in_size, place_of, AllOfSize}
use Rattle.order.specs.Order.{Earlier, fewer, smaller, Ordered}
use Rattle.order.proofs.Places.{once}

-- ---- counts
-- No set of w numbers has more than w of them.
pub count_none : (w n : ℕ) → w < n → count w n ≡ 0
unfolding count
count_none w zero h = absurd (omega arith)
count_none zero (suc n) h = refl
count_none (suc w) (suc n) h = let x = count_none w (suc n) (omega arith) in let y = count_none w n (omega arith) in omega arith

-- The sets of fewer than n + 1 of w + 1 numbers: those without w + 1, and those with it.
below_both : (w n : ℕ) → count_below (suc w) (suc n) ≡ count_below w (suc n) + count_below w n
unfolding count count_below
below_both w zero = refl
below_both w (suc n) = let x = below_both w n in omega arith

-- All sizes together have every set.
pub below_all : (w : ℕ) → count_below w (suc w) ≡ 2 ^ w
unfolding count count_below
below_all zero = refl
below_all (suc w) =
    let x = below_both w (suc w) in let y = below_all w in let z = count_none w (suc w) (omega arith) in omega arith

-- Larger sizes come after all smaller ones.
pub below-mono : (w m n : ℕ) → m < n → count_below w m + count w m ≤ count_below w n
unfolding count_below
below-mono w m zero h = absurd (omega arith)
below-mono w m (suc n) h = ⊎_elim (λ (e : m ≡ n). rw e (omega arith)) (λ n'. let x = below-mono w m n (omega arith) in omega arith) (holds-or-not (decides_eq m n))

-- ---- the sets of one size
-- Those without the last number, and those with it.
pub of_low : (w n k : ℕ) → k < count w (suc n) → of_size (suc w) (suc n) k ≡ of_size w (suc n) k
unfolding of_size
of_low w n k h = rw (holds (decides-lt k (count w (suc n))) h, of_size)

pub of-high : (w n k : ℕ) → count w (suc n) ≤ k → of_size (suc w) (suc n) k ≡ 2 ^ w + of_size w n (k - count w (suc n))
unfolding of_size
of-high w n k h = rw (fails (decides-lt k (count w (suc n))) (λ l. omega arith), of_size)

-- Each is a set of w numbers and has that size.
pub of_size_lem : (w n k : ℕ) → k < count w n → (of_size w n k < 2 ^ w) × (size_to w (of_size w n k) ≡ n)
unfolding count of_size
of_size_lem zero zero k h = (omega arith, size-zero 0)
of_size_lem zero (suc n) k h = absurd (omega arith)
of_size_lem (suc w) zero k h = let x = of_size_lem w zero k h in (omega (arith, x.0), size_above (suc w) w _ (omega arith) x.0 ∙ x.1)
of_size_lem (suc w) (suc n) k h =
    ⊎_elim
    (λ l. let x = of_size_lem w (suc n) k l in rw (of_low w n k l) (omega (arith, x.0), size_above (suc w) w _ (omega arith) x.0 ∙ x.1))
    (λ l. let m : k - count w (suc n) < count w n = omega arith in let x = of_size_lem w n (k - count w (suc n)) m in rw (of-high w n k l) (omega (arith, x.0), size-with w _ x.0 ∙ ap suc x.1))
    (lt-or-le k (count w (suc n)))

-- They rise.
of-rises : (w n j k : ℕ) → j < k → k < count w n → of_size w n j < of_size w n k
unfolding count
of-rises w zero j k l h = absurd (omega arith)
of-rises zero (suc n) j k l h = absurd (omega arith)
of-rises (suc w) (suc n) j k l h =
    ⊎_elim (λ b. let x = of-rises w (suc n) j k l b in rw (of_low w n j (omega arith), of_low w n k b) x)
    (λ b. ⊎_elim
    (λ a. let x = (of_size_lem w (suc n) j a).0 in rw (of_low w n j a, of-high w n k b) (omega arith))
    (λ a. let d : j - count w (suc n) < k - count w (suc n) = omega arith in let m : k - count w (suc n) < count w n = omega arith in let x = of-rises w n (j - count w (suc n)) (k - count w (suc n)) d m in rw (of-high w n j a, of-high w n k b) (omega arith))
    (lt-or-le j (count w (suc n))))
    (lt-or-le k (count w (suc n)))

-- ---- all sizes
-- Where a place stands: its size, and its place among the sets of that size.
pub record Standing (w place v : ℕ) : Type 0 where
  pub of : ℕ
  pub rest : ℕ
  pub place_is : count_below w of + rest ≡ place
  pub there : rest < count w of
  pub set_is : v ≡ of_size w of rest

from-standing : (w d n k top : ℕ) → n + d ≡ top → count_below w n + k < count_below w top → Standing w (count_below w n + k) (from_size w d n k)
unfolding from_size count_below
from-standing w zero n k top e h = let f : top ≡ n = omega arith in absurd (omega (arith, rw f at h))
from-standing w (suc d) n k top e h =
    ⊎_elim (λ l. rw (holds (decides-lt k (count w n)) l, from_size) (record { of = n; rest = k; place_is = refl; there = l; set_is = refl }))
    (λ l. let f : count_below w (suc n) + (k - count w n) ≡ count_below w n + k = omega arith in
    rw (fails (decides-lt k (count w n)) (λ m. omega arith), from_size) (rw f at (from-standing w d (suc n) (k - count w n) top (omega arith) (rw f h))))
    (lt-or-le k (count w n))

standing : (w k : ℕ) → k < 2 ^ w → Standing w k (set_at w k)
unfolding set_at count_below
standing w k h =
    let e : 0 + k ≡ k = omega arith in
    rw e at (from-standing w (suc w) 0 k (suc w) (omega arith) (let x = below_all w in omega arith))

module _ (w : ℕ) (small : w ≤ 64) where
  stands-below : (k v : ℕ) → Standing w k v → v < 2 ^ w
  stands-below k v s = rw s.set_is (of_size_lem w s.of s.rest s.there).0

  stands-size : (k v : ℕ) (s : Standing w k v) → size v ≡ s.of
  stands-size k v s = sym (size-narrow w v small (stands-below k v s)) ∙ ap (size_to w) s.set_is ∙ (of_size_lem w s.of s.rest s.there).1

  -- Two places of one size.
  same_size : (m n r s : ℕ) → n ≡ m → count_below w m + r < count_below w n + s → s < count w n → of_size w m r < of_size w n s
  same_size m n r s e l h = rw e (of-rises w m r s (omega (arith, rw e at l)) (rw e at h))

  -- A later place has a later set.
  rises : (j k u v : ℕ) → j < k → Standing w j u → Standing w k v → Earlier u v
  rises j k u v l a b =
      let ea = stands-size j u a in
      let eb = stands-size k v b in
      ⊎_elim (λ m. fewer (omega arith))
      (λ m. let below : b.of < a.of → ⊥ = λ n. let x = below-mono w b.of a.of n in omega (arith, a.place_is, b.place_is, b.there) in
      let e : b.of ≡ a.of = omega arith in
      smaller (omega arith) (rw (a.set_is, b.set_is) (same_size a.of b.of a.rest b.rest e (omega (arith, a.place_is, b.place_is)) b.there)))
      (lt-or-le a.of b.of)

-- ---- the place of a set
-- It hangs on the first w numbers alone.
in-size-mod : (w v m : ℕ) → w ≤ m → place_in_size w (v % 2 ^ m) ≡ place_in_size w v
unfolding place_in_size
in-size-mod zero v m h = refl
in-size-mod (suc w) v m h = rw (in-size-mod w v m (omega arith), bit-mod v m w (omega arith), size-mod m v (suc w) h)

in-size-low : (w v : ℕ) → v < 2 ^ w → place_in_size (suc w) v ≡ place_in_size w v
unfolding place_in_size
in-size-low w v h = rw (bit-over v w w h (omega arith)) (omega arith)

in-size-high : (w v : ℕ) → v < 2 ^ w → place_in_size (suc w) (2 ^ w + v) ≡ count w (suc (size_to w v)) + place_in_size w v
unfolding place_in_size
in-size-high w v h =
    let e : 1 * 2 ^ w + v ≡ 2 ^ w + v = omega arith in
    let x = rw e at (high 1 w h) in
    let y = rw (rw e at (low 1 w h)) at (in-size-mod w (2 ^ w + v) w (omega arith)) in
    rw (x, ← y, size-with w v h) (omega arith)

of-same : (w n k : ℕ) → k < count w n → (k < count (suc w) n) × (of_size (suc w) n k ≡ of_size w n k)
unfolding count of_size
of-same w zero k h = (h, refl)
of-same w (suc n) k h = (omega arith, of_low w n k h)

of-more : (w n k : ℕ) → k < count w n → (count w (suc n) + k < count (suc w) (suc n)) × (of_size (suc w) (suc n) (count w (suc n) + k) ≡ 2 ^ w + of_size w n k)
unfolding count
of-more w n k h = let e : count w (suc n) + k - count w (suc n) ≡ k = omega arith in (omega arith, rw e at (of-high w n (count w (suc n) + k) (omega arith)))

-- The set v is at place k of those of n of the first w numbers.
abbrev InSize : ℕ → ℕ → ℕ → ℕ → Type 0
InSize w v n k = (k < count w n) × (of_size w n k ≡ v)

in-size-none : (v : ℕ) → v < 2 ^ 0 → InSize 0 v (size_to 0 v) (place_in_size 0 v)
unfolding place_in_size count size_to of_size
in-size-none v h = (omega arith, omega arith)

-- The size of a set and its place among the sets of that size give the set back.
in-size-there : (w v : ℕ) → v < 2 ^ w → InSize w v (size_to w v) (place_in_size w v)
in-size-there zero v h = in-size-none v h
in-size-there (suc w) v h =
    ⊎_elim
    (λ (l : v < 2 ^ w). let x = in-size-there w v l in let y = of-same w (size_to w v) (place_in_size w v) x.0 in
    rw (size_above (suc w) w v (omega arith) l, in-size-low w v l) (y.0, y.1 ∙ x.1))
    (λ (l : 2 ^ w ≤ v). let e : v ≡ 2 ^ w + (v - 2 ^ w) = omega arith in
    let b : v - 2 ^ w < 2 ^ w = omega arith in
    let x = in-size-there w (v - 2 ^ w) b in let y = of-more w (size_to w (v - 2 ^ w)) (place_in_size w (v - 2 ^ w)) x.0 in
    subst (λ (u : ℕ). InSize (suc w) u (size_to (suc w) u) (place_in_size (suc w) u)) (sym e)
    (rw (size-with w (v - 2 ^ w) b, in-size-high w (v - 2 ^ w) b) (y.0, y.1 ∙ ap (λ (u : ℕ). 2 ^ w + u) x.1)))
    (lt-or-le v (2 ^ w))

-- A place has one standing.
pub standing-there : (w n r k : ℕ) → n ≤ w → r < count w n → k ≡ count_below w n + r → (k < 2 ^ w) × (set_at w k ≡ of_size w n r)
standing-there w n r k h l e =
    let x = below-mono w n (suc w) (omega arith) in
    let y = below_all w in
    let b : k < 2 ^ w = omega arith in
    let s = standing w k b in
    let p = s.place_is in
    let q = s.there in
    let below : s.of < n → ⊥ = λ m. let z = below-mono w s.of n m in omega arith in
    let above : n < s.of → ⊥ = λ m. let z = below-mono w n s.of m in omega arith in
    let f : s.of ≡ n = omega (arith, below, above) in
    let g : s.rest ≡ r = omega (arith, rw f at p) in
    (b, s.set_is ∙ rw (f, g))

pub place-there : (w v : ℕ) → v < 2 ^ w → (place_of w v < 2 ^ w) × (set_at w (place_of w v) ≡ v)
unfolding place_of
place-there w v h =
    let x = in-size-there w v h in
    let y = standing-there w (size_to w v) (place_in_size w v) (place_of w v) (size-most w v) x.0 refl in
    (y.0, y.1 ∙ x.1)

-- The counts are those of sets: of n of w numbers there are `count w n` sets, and `of_size w n` lists them.
pub lists : (w n : ℕ) → w ≤ 64 → AllOfSize w n (count w n) (of_size w n)
lists w n h = record {
  sets = λ k l. let x = of_size_lem w n k l in (x.0, sym (size-narrow w (of_size w n k) h x.0) ∙ x.1);
  present = λ v l e. let f : size_to w v ≡ n = size-narrow w v h l ∙ e in let x = in-size-there w v l in (place_in_size w v, rw f at x.0, rw f at x.1);
  rises = of-rises w n;
}

-- The order of the sets of exceptions meets the rule of document 01, for any number of exceptions up to 64.
pub order-rule : (w : ℕ) → w ≤ 64 → Ordered w (set_at w)
order-rule w h = record {
  below = λ k l. stands-below w h k (set_at w k) (standing w k l);
  present = λ v l. let x = place-there w v l in (place_of w v, x.0, x.1);
  rises = λ j k l m. rises w h j k (set_at w j) (set_at w k) l (standing w j (omega arith)) (standing w k m);
}

-- The set at a place and the place of a set are inverse.
pub inverse : (w : ℕ) → w ≤ 64 → ((v : ℕ) → v < 2 ^ w → (place_of w v < 2 ^ w) × (set_at w (place_of w v) ≡ v)) × ((k : ℕ) → k < 2 ^ w → place_of w (set_at w k) ≡ k)
inverse w h =
    let rule = order-rule w h in (
      place-there w,
      λ k l. let x = place-there w (set_at w k) (rule.below k l) in once {w = w} {f = set_at w} rule (place_of w (set_at w k)) k x.0 l x.1,
    )

-- The entries that document 01 names, for twelve exceptions, and document 02, (c), for sixteen.
pub named : (set_at 12 0 ≡ 0) × (set_at 12 1 ≡ 1) × (set_at 12 2 ≡ 2) × (set_at 12 3 ≡ 4) × (set_at 12 13 ≡ 3) × (set_at 12 14 ≡ 5) × (set_at 12 4095 ≡ 4095)
unfolding set_at from_size of_size count
named = (refl, refl, refl, refl, refl, refl, refl)

pub named-sixteen : (set_at 16 0 ≡ 0) × (set_at 16 1 ≡ 1) × (set_at 16 2 ≡ 2) × (set_at 16 3 ≡ 4) × (set_at 16 17 ≡ 3) × (set_at 16 18 ≡ 5) × (set_at 16 65535 ≡ 65535)
unfolding set_at from_size of_size count
named-sixteen = (refl, refl, refl, refl, refl, refl, refl)
