-- What one turn of each loop over the counts does.
use mathlib.Core.Path.{◌≡◌, refl, sym, ap, ◌∙◌}
use Prim.Native.Nat.{ℕ, zero, suc, ◌+◌, ◌-◌, ◌*◌, ◌%◌, ◌^◌, ◌<◌, ◌≤◌}
use native.Mathlib.Numerals.{add-one}
use native.Mathlib.Nat.{mul-le-mul_right}
use native.Mathlib.Omega.{arith}
use lib.Pow.{pow_mono}
use Rattle.sets.specs.Sets.{bit_of, size_to}
use Rattle.sets.proofs.Digits.{bit-lt, shifted}
use Rattle.sets.proofs.Sizes.{size-most}
use Rattle.order.specs.Formula.{count, count_below, of_size, set_at, place_in_size, place_of, widest}
use Rattle.order.proofs.Rule.{below-mono, below_all, count_none, of_low, of-high, of_size_lem, standing-there, place-there}
use Rattle.order.proofs.Shares.{count_most}

-- The sets of n of w numbers are those without the last and those with it.
count-with : (w n c d : ℕ) → 0 < n → 0 < w → c ≡ count w n → d ≡ count (w - 1) n → (d ≤ c) × (c - d ≡ count (w - 1) (n - 1))
unfolding count
count-with w zero c d p q ec ed = absurd (omega arith)
count-with zero (suc n) c d p q ec ed = absurd (omega arith)
count-with (suc w) (suc n) c d p q ec ed =
    let ew : suc w - 1 ≡ w = omega arith in
    let en : suc n - 1 ≡ n = omega arith in
    let f = rw ew at ed in
    rw (ew, en) (omega arith, omega arith)

-- A loop from the largest number down names the number below w by w - 1.
pub one-less : (w n d : ℕ) → d ≡ count (w - 1 + 1 - 1) n → d ≡ count (w - 1) n
one-less w n d e = let f : w - 1 + 1 - 1 ≡ w - 1 = omega arith in rw f at e

-- ---- the set of a size, from the largest number down
-- Where there is a set of n of w numbers, n is at most w.
some_fit : (w n k : ℕ) → k < count w n → n ≤ w
some_fit w n k h = let over : w < n → ⊥ = λ l. let z = count_none w n l in omega arith in omega arith

-- The number w is a member,
turn_in : (w n k c : ℕ) → 0 < n → 0 < w → c ≡ count (w - 1) n → c ≤ k → of_size w n k ≡ 2 ^ (w - 1) + of_size (w - 1) (n - 1) (k - c)
turn_in w zero k c p q e l = absurd (omega arith)
turn_in zero (suc n) k c p q e l = absurd (omega arith)
turn_in (suc w) (suc n) k c p q e l =
    let ew : suc w - 1 ≡ w = omega arith in
    let en : suc n - 1 ≡ n = omega arith in
    let ec : c ≡ count w (suc n) = rw ew at e in
    rw (ew, en, ec) (of-high w n k (omega arith))

-- or not.
turn-out : (w n k c : ℕ) → 0 < n → 0 < w → c ≡ count (w - 1) n → k < c → of_size w n k ≡ of_size (w - 1) n k
turn-out w zero k c p q e l = absurd (omega arith)
turn-out zero (suc n) k c p q e l = absurd (omega arith)
turn-out (suc w) (suc n) k c p q e l =
    let ew : suc w - 1 ≡ w = omega arith in
    let ec : c ≡ count w (suc n) = rw ew at e in
    rw ew (of_low w n k (omega arith))

of_zero : (w k : ℕ) → of_size w 0 k ≡ 0
unfolding of_size
of_zero zero k = refl
of_zero (suc w) k = of_zero w k

-- The members t have been found, and `left` of the first w numbers are to follow, the set at place `rest` of c.
pub record Building (x n place t w left rest c : ℕ) : Type 0 where
  pub small : x ≤ widest
  pub place-there : place < count x n
  pub numbers : w ≤ x
  pub counted : c ≡ count w left
  pub there : rest < c
  pub whole : t + of_size w left rest ≡ of_size x n place

module _ {x n place t w left rest c : ℕ} (b : Building x n place t w left rest c) where
  pub built : (0 < left → ⊥) → t ≡ of_size x n place
  built z =
      let e : left ≡ 0 = omega arith in
      let f = rw (e, of_zero w rest) at b.whole in
      omega arith

  pub left-fits : left ≤ w
  left-fits = some_fit w left rest (rw (← b.counted) b.there)

  module _ (p : 0 < left) where
    pub some_left : 0 < w
    some_left = let l = left-fits in omega arith

    module _ {d : ℕ} (e : d ≡ count (w - 1) left) where
      pub built-without : rest < d → Building x n place t (w - 1) left rest d
      built-without l =
          record { small = b.small; place-there = b.place-there; numbers = omega (arith, b.numbers); counted = e; there = l; whole = rw (← turn-out w left rest d p some_left e l) b.whole }

      module _ (l : rest < d → ⊥) where
        with_it : (d ≤ c) × (c - d ≡ count (w - 1) (left - 1))
        with_it = count-with w left c d p some_left b.counted e

        pub share-left : d ≤ c
        share-left = with_it.0

        turned : of_size w left rest ≡ 2 ^ (w - 1) + of_size (w - 1) (left - 1) (rest - d)
        turned = turn_in w left rest d p some_left e (omega arith)

        one : 1 * 2 ^ (w - 1) % 2 ^ 64 ≡ 2 ^ (w - 1)
        one = shifted (w - 1) (omega (arith, b.small, b.numbers, some_left))

        pub sum_fits : t + 1 * 2 ^ (w - 1) % 2 ^ 64 < 2 ^ 64
        sum_fits =
            let y = (of_size_lem x n place b.place-there).0 in
            let z : 2 ^ x ≤ 2 ^ widest = pow_mono b.small in
            omega (arith, one, turned, b.whole)

        pub built-with : Building x n place (t + 1 * 2 ^ (w - 1) % 2 ^ 64) (w - 1) (left - 1) (rest - d) (c - d)
        built-with = record { small = b.small; place-there = b.place-there; numbers = omega (arith, b.numbers); counted = with_it.1; there = omega (arith, b.there, share-left); whole = omega (arith, one, turned, b.whole) }

-- ---- the size of the set at a place
pub none_below : (x : ℕ) → (1 ≡ count x 0) × (count_below x 0 ≡ 0)
unfolding count count_below
none_below x = (refl, refl)

below_next : (x n : ℕ) → count_below x (n + 1) ≡ count_below x n + count x n
unfolding count_below
below_next x n = ap (count_below x) (add-one n)

-- The sizes below n are passed over; c sets have size n, and the place is `rest` places further.
pub record Sizing (x place n c rest : ℕ) : Type 0 where
  pub small : x ≤ widest
  pub inside : place < 2 ^ x
  pub fits : n ≤ x
  pub counted : c ≡ count x n
  pub whole : count_below x n + rest ≡ place

module _ {x place n c rest : ℕ} (b : Sizing x place n c rest) where
  -- The set is one of this size.
  pub sized : rest < c → of_size x n rest ≡ set_at x place
  sized l = sym (standing-there x n rest place b.fits (omega (arith, b.counted)) (sym b.whole)).1

  module _ (l : c ≤ rest) where
    more-sizes : n + 1 ≤ x
    more-sizes =
        let y = below_next x n in
        let last : n ≡ x → ⊥ = λ f. let z = below_all x in let g : count_below x (n + 1) ≡ count_below x (suc x) = ap (count_below x) (add-one n ∙ ap suc f) in omega (arith, b.counted, b.whole, b.inside) in
        omega (arith, b.fits)

    pub size-passed : {d : ℕ} → d ≡ count x (n + 1) → Sizing x place (n + 1) d (rest - c)
    size-passed e = let y = below_next x n in record { small = b.small; inside = b.inside; fits = more-sizes; counted = e; whole = omega (arith, b.counted, b.whole) }

  -- It is, where all others are passed over.
  pub last-size : n ≡ x → rest < c
  last-size e = let none : c ≤ rest → ⊥ = λ l. let m = more-sizes l in omega arith in omega arith

-- ---- the place of a set among those of its size, from the largest number down
-- The place so far, and that among the sets of `left` of the first w numbers.
pub record Finding (x t place w left c : ℕ) : Type 0 where
  pub small : x ≤ widest
  pub numbers : w ≤ x
  pub size_is : left ≡ size_to w t
  pub counted : c ≡ count w left
  pub whole : place + place_in_size w t ≡ place_in_size x t

in-size-empty : (w t : ℕ) → size_to w t ≡ 0 → place_in_size w t ≡ 0
unfolding place_in_size size_to
in-size-empty zero t e = refl
in-size-empty (suc w) t e =
    let z : bit_of t w ≡ 0 = omega arith in
    let y = in-size-empty w t (omega arith) in
    rw z (omega arith)

in-size-most : (w t : ℕ) → place_in_size w t ≤ 2 ^ w
unfolding place_in_size
in-size-most zero t = omega arith
in-size-most (suc w) t =
    let x = in-size-most w t in
    let y = count_most w (size_to (suc w) t) in
    let z : bit_of t w * count w (size_to (suc w) t) ≤ 1 * count w (size_to (suc w) t) = mul-le-mul_right (count w (size_to (suc w) t)) (let b = bit-lt t w in omega arith) in
    omega arith

module _ (t : ℕ) where
  found-last : (w left d : ℕ) → 0 < w → left ≡ size_to w t → d ≡ count (w - 1) left
      → (left ≡ size_to (w - 1) t + bit_of t (w - 1)) × (place_in_size w t ≡ place_in_size (w - 1) t + bit_of t (w - 1) * d)
  unfolding size_to place_in_size
  found-last zero left d p e f = absurd (omega arith)
  found-last (suc w) left d p e f =
      let ew : suc w - 1 ≡ w = omega arith in
      let g = rw ew at f in
      rw (ew, g, e) (refl, refl)

module _ {x t place w left c : ℕ} (b : Finding x t place w left c) where
  pub found : (0 < left → ⊥) → place ≡ place_in_size x t
  found z = let e : size_to w t ≡ 0 = omega (arith, b.size_is) in omega (arith, in-size-empty w t e, b.whole)

  pub size_fits : left ≤ w
  size_fits = let s = size-most w t in omega (arith, b.size_is)

  module _ (p : 0 < left) where
    pub some-there : 0 < w
    some-there = let l = size_fits in omega arith

    module _ {d : ℕ} (e : d ≡ count (w - 1) left) where
      last : (left ≡ size_to (w - 1) t + bit_of t (w - 1)) × (place_in_size w t ≡ place_in_size (w - 1) t + bit_of t (w - 1) * d)
      last = found-last t w left d some-there b.size_is e

      pub found-without : bit_of t (w - 1) ≡ 0 → Finding x t place (w - 1) left d
      found-without z = record {
        small = b.small;
        numbers = omega (arith, b.numbers);
        size_is = omega (arith, last.0);
        counted = e;
        whole = let y = rw z at last.1 in omega (arith, b.whole);
      }

      module _ (n : bit_of t (w - 1) ≡ 0 → ⊥) where
        set_there : bit_of t (w - 1) ≡ 1
        set_there = let l = bit-lt t (w - 1) in omega arith

        both-counted : (d ≤ c) × (c - d ≡ count (w - 1) (left - 1))
        both-counted = count-with w left c d p some-there b.counted e

        pub part-fits : d ≤ c
        part-fits = both-counted.0

        in-size-last : place_in_size w t ≡ place_in_size (w - 1) t + d
        in-size-last = let y = rw set_there at last.1 in omega arith

        pub place-stays : place + d < 2 ^ 64
        place-stays =
            let y = in-size-most x t in
            let z : 2 ^ x ≤ 2 ^ widest = pow_mono b.small in
            omega (arith, in-size-last, b.whole)

        pub found-with : Finding x t (place + d) (w - 1) (left - 1) (c - d)
        found-with = record {
          small = b.small;
          numbers = omega (arith, b.numbers);
          size_is = omega (arith, last.0, set_there);
          counted = both-counted.1;
          whole = omega (arith, in-size-last, b.whole);
        }

-- ---- the place of a set
-- There are c sets of size n, which is at most that of t, and `before` of smaller sizes.
pub record Summing (x t n c before : ℕ) : Type 0 where
  pub small : x ≤ widest
  pub inside : t < 2 ^ x
  pub fits : n ≤ size_to x t
  pub counted : c ≡ count x n
  pub whole : before ≡ count_below x n

place_is : (x t : ℕ) → place_of x t ≡ count_below x (size_to x t) + place_in_size x t
unfolding place_of
place_is x t = refl

module _ {x t n c before : ℕ} (b : Summing x t n c before) where
  pub size-inside : n ≤ x
  size-inside = let s = size-most x t in omega (arith, b.fits)

  all-places : 2 ^ x ≤ 2 ^ widest
  all-places = pow_mono b.small

  module _ (l : n < size_to x t) where
    pub more-fits : before + c < 2 ^ 64
    more-fits =
        let y = below-mono x n (size_to x t) l in
        let z = (place-there x t b.inside).0 in
        let w = all-places in
        omega (arith, place_is x t, b.counted, b.whole)

    pub size-added : {d : ℕ} → d ≡ count x (n + 1) → Summing x t (n + 1) d (before + c)
    size-added e = let y = below_next x n in record { small = b.small; inside = b.inside; fits = omega arith; counted = e; whole = omega (arith, b.counted, b.whole) }

  module _ (l : n < size_to x t → ⊥) where
    pub size-reached : n ≡ size_to x t
    size-reached = omega (arith, b.fits)

    module _ {r : ℕ} (e : r ≡ place_in_size x t) where
      pub place-reached : before + r ≡ place_of x t
      place-reached = let g = rw size-reached at b.whole in omega (arith, place_is x t)

      pub placed-fits : before + r < 2 ^ 64
      placed-fits = let p = (place-there x t b.inside).0 in let e = place-reached in let w = all-places in omega arith
