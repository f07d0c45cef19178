-- What share of the sets of a size is without the last number, and how many sets the next size has: the counts step by step, without a table.
use mathlib.Core.Path.{◌≡◌, refl}
use Prim.Native.Nat.{ℕ, zero, suc, ◌+◌, ◌-◌, ◌*◌, ◌/◌, ◌^◌, ◌<◌, ◌≤◌}
use native.Mathlib.Nat.{add-mul, mul-add, mul_comm, mul-le-mul, div-eq_of_eq-mul_left}
use native.Mathlib.Numerals.{add-one}
use native.Mathlib.Omega.{arith}
use lib.Pow.{pow_mono, pow_pos}
use Rattle.order.specs.Formula.{count, widest}

-- A set of n + 1 of w + 1 numbers with one of them set apart: n + 1 choices in each set, or w + 1 choices first and then n of the other w.
chair : (w n : ℕ) → suc n * count (suc w) (suc n) ≡ suc w * count w n
unfolding count
chair zero zero = refl
chair zero (suc n) = omega arith
chair (suc w) zero = let x = chair w zero in omega arith
chair (suc w) (suc n) =
    let x = chair w (suc n) in
    let y = chair w n in
    let a = mul-add (suc (suc n)) (count (suc w) (suc (suc n))) (count (suc w) (suc n)) in
    let b = mul-add (suc w) (count w (suc n)) (count w n) in
    omega arith

-- Of the sets of n of w + 1 numbers as many of w + 1 are without the last as numbers are left out.
without-share : (w n : ℕ) → n ≤ suc w → count (suc w) n * (suc w - n) ≡ count w n * suc w
unfolding count
without-share w zero h = omega arith
without-share w (suc n) h =
    let x = chair w n in
    let d : ℕ = suc w - suc n in
    let e : suc n + d ≡ suc w = omega arith in
    let a = add-mul (suc n) d (count (suc w) (suc n)) in
    let b = mul-add (suc w) (count w (suc n)) (count w n) in
    let y = mul_comm (count (suc w) (suc n)) d in
    let z = mul_comm (count w (suc n)) (suc w) in
    let f = rw e at a in
    omega arith

-- Each set of n of w numbers has w - n sets of one more above it, and each of these has n + 1 below it.
next-share : (w n : ℕ) → n ≤ w → count w n * (w - n) ≡ count w (suc n) * suc n
unfolding count
next-share w n h =
    let x = chair w n in
    let d : ℕ = w - n in
    let e : suc n + d ≡ suc w = omega arith in
    let a = add-mul (suc n) d (count w n) in
    let b = mul-add (suc n) (count w (suc n)) (count w n) in
    let y = mul_comm (count w n) d in
    let z = mul_comm (count w (suc n)) (suc n) in
    let f = rw e at a in
    omega arith

-- ---- as the functions work them out
pub without-last : (w n c : ℕ) → 0 < w → n ≤ w → c ≡ count w n → c * (w - n) / w ≡ count (w - 1) n
without-last zero n c p h e = absurd (omega arith)
without-last (suc w) n c p h e = let f : suc w - 1 ≡ w = omega arith in rw (f, e) (div-eq_of_eq-mul_left p (without-share w n h))

pub next-size : (w n c : ℕ) → n ≤ w → c ≡ count w n → c * (w - n) / (n + 1) ≡ count w (n + 1)
next-size w n c h e = rw (add-one n, e) (div-eq_of_eq-mul_left (omega arith) (next-share w n h))

-- No count is more than all sets.
pub count_most : (w n : ℕ) → count w n ≤ 2 ^ w
unfolding count
count_most w zero = let x = pow_pos w in omega arith
count_most zero (suc n) = omega arith
count_most (suc w) (suc n) = let x = count_most w (suc n) in let y = count_most w n in omega arith

-- The products stay within a word.
pub share-fits : (w n c : ℕ) → w ≤ widest → c ≡ count w n → c * (w - n) < 2 ^ 64
share-fits w n c h e =
    let a = count_most w n in
    let b : 2 ^ w ≤ 2 ^ widest = pow_mono h in
    let d : c ≤ 2 ^ 32 = omega arith in
    let f : w - n ≤ 32 = omega arith in
    let g = mul-le-mul d f in
    omega arith
