-- What the operations on words do to each digit, and that a number is its digits.
use mathlib.Core.Path.{◌≡◌, refl, sym, ap, subst, ◌∙◌}
use mathlib.Core.Bool.{Bool, true, false}
use mathlib.Core.Logic.{◌⊎◌, inl, inr, ⊎_elim}
use Prim.Native.Nat.{ℕ, zero, suc, ◌+◌, ◌-◌, ◌*◌, ◌/◌, ◌%◌, ◌^◌, ◌<◌, ◌≤◌, min, max}
use native.Mathlib.Nat.{mod-lt, mod-eq_of_lt, div-eq_of_lt, lt_of_lt_of_le, mul-mod_left, div_self, le_refl, eq-or-lt_of_le, pow-suc, one-mul}
use native.Mathlib.Numerals.{add-one}
use native.Mathlib.Omega.{arith}
use lib.Bits.{bit_and, bit_or, bit_xor, differ, and_shr, or_shr, xor_shr, and_mod, or_mod, xor_mod}
use lib.Count.{ones, ones_cat}
use lib.Dec.{eqb, ltb, lit<}
use lib.Pow.{split, shr_lt, field, mod-mod-pow, pow_pos, pow-add, pow-lt, pow_mono, shl-shr, shl_exact}
use borrow.Author.Tests.{eq-eqb, ne_eqb, ltb-true, ltb-false}
use Rattle.sets.specs.Sets.{bit_of, size_to, without}

two : zero < 2
two = lit< tt

-- A one that is shifted within a word.
pub shifted : (k : ℕ) → k < 64 → 1 * 2 ^ k % 2 ^ 64 ≡ 2 ^ k
shifted k h = shl_exact 1 k 64 (lit< tt) (omega arith) ∙ one-mul _

-- A number is below 2 to the power of itself.
pub lt-pow : (n : ℕ) → n < 2 ^ n
lt-pow zero = omega arith
lt-pow (suc n) = let ih = lt-pow n in omega (arith, pow-suc 2 n)

-- A law of two digits is that of the four cases.
pub by_digits : (P : ℕ → ℕ → Type 0) → P 0 0 → P 0 1 → P 1 0 → P 1 1 → (x y : ℕ) → x < 2 → y < 2 → P x y
by_digits P a b c d zero zero hx hy = a
by_digits P a b c d zero (suc zero) hx hy = b
by_digits P a b c d (suc zero) zero hx hy = c
by_digits P a b c d (suc zero) (suc zero) hx hy = d
by_digits P a b c d zero (suc (suc y)) hx hy = absurd (omega arith)
by_digits P a b c d (suc zero) (suc (suc y)) hx hy = absurd (omega arith)
by_digits P a b c d (suc (suc x)) y hx hy = absurd (omega arith)

pub bit-lt : (a i : ℕ) → bit_of a i < 2
bit-lt a i = mod-lt (a / 2 ^ i) two

pub bit-and : (a b i : ℕ) → bit_of (bit_and a b) i ≡ min (bit_of a i) (bit_of b i)
bit-and a b i =
    ap (λ (x : ℕ). x % 2) (and_shr a b i) ∙ and_mod (a / 2 ^ i) (b / 2 ^ i) 1
    ∙ by_digits (λ x y. bit_and x y ≡ min x y) refl refl refl refl (bit_of a i) (bit_of b i) (bit-lt a i) (bit-lt b i)

pub bit-or : (a b i : ℕ) → bit_of (bit_or a b) i ≡ max (bit_of a i) (bit_of b i)
bit-or a b i =
    ap (λ (x : ℕ). x % 2) (or_shr a b i) ∙ or_mod (a / 2 ^ i) (b / 2 ^ i) 1
    ∙ by_digits (λ x y. bit_or x y ≡ max x y) refl refl refl refl (bit_of a i) (bit_of b i) (bit-lt a i) (bit-lt b i)

pub bit-xor : (a b i : ℕ) → bit_of (bit_xor a b) i ≡ differ (bit_of a i) (bit_of b i)
bit-xor a b i =
    ap (λ (x : ℕ). x % 2) (xor_shr a b i) ∙ xor_mod (a / 2 ^ i) (b / 2 ^ i) 1
    ∙ by_digits (λ x y. bit_xor x y ≡ differ x y) refl refl refl refl (bit_of a i) (bit_of b i) (bit-lt a i) (bit-lt b i)

pub bit-without : (a b i : ℕ) → bit_of (without a b) i ≡ bit_of a i - bit_of b i
bit-without a b i =
    bit-xor a (bit_and a b) i ∙ ap (differ (bit_of a i)) (bit-and a b i)
    ∙ by_digits (λ x y. differ x (min x y) ≡ x - y) refl refl refl refl (bit_of a i) (bit_of b i) (bit-lt a i) (bit-lt b i)

-- the digits of the k low digits
pub bit-mod : (a k i : ℕ) → i < k → bit_of (a % 2 ^ k) i ≡ bit_of a i
bit-mod a k i h =
    let e : k ≡ suc (k - suc i) + i = omega arith in
    ap (λ (m : ℕ). a % 2 ^ m / 2 ^ i % 2) e
    ∙ ap (λ (x : ℕ). x % 2) (field a (suc (k - suc i)) i)
    ∙ ap (λ (m : ℕ). (a / 2 ^ i) % 2 ^ m % 2) (sym (add-one (k - suc i)))
    ∙ mod-mod-pow (a / 2 ^ i) (k - suc i) 1

top : (a k : ℕ) → a < 2 ^ suc k → a / 2 ^ k ≡ bit_of a k
top a k h = sym (mod-eq_of_lt (shr_lt 1 k (subst (λ (m : ℕ). a < 2 ^ m) (omega arith) h)))

-- a set is its members
pub ext : (k a b : ℕ) → a < 2 ^ k → b < 2 ^ k → ((i : ℕ) → i < k → bit_of a i ≡ bit_of b i) → a ≡ b
ext zero a b ha hb f = omega arith
ext (suc k) a b ha hb f =
    let low = ext k (a % 2 ^ k) (b % 2 ^ k) (mod-lt a (pow_pos k)) (mod-lt b (pow_pos k))
    (λ i h. bit-mod a k i h ∙ f i (omega arith) ∙ sym (bit-mod b k i h)) in
    let hi = top a k ha ∙ f k (omega arith) ∙ sym (top b k hb) in
    sym (split a k) ∙ ap (λ (x : ℕ). x * 2 ^ k + a % 2 ^ k) hi ∙ ap (λ (x : ℕ). b / 2 ^ k * 2 ^ k + x) low ∙ split b k

size_same : (k a b : ℕ) → ((i : ℕ) → i < k → bit_of a i ≡ bit_of b i) → size_to k a ≡ size_to k b
unfolding size_to
size_same zero a b f = refl
size_same (suc k) a b f = ap (λ (x : ℕ). x + bit_of a k) (size_same k a b (λ i h. f i (omega arith))) ∙ ap (λ (x : ℕ). size_to k b + x) (f k (omega arith))

ones-digit : (x : ℕ) → x < 2 → ones x ≡ x
unfolding ones
ones-digit zero h = refl
ones-digit (suc zero) h = refl
ones-digit (suc (suc x)) h = absurd (omega arith)

-- the count of ones is the number of members
pub ones-size : (k a : ℕ) → a < 2 ^ k → ones a ≡ size_to k a
unfolding size_to
ones-size zero a h = ap ones (omega arith) ∙ ones-digit 0 two
ones-size (suc k) a h =
    ap ones (sym (split a k)) ∙ ones_cat k (a / 2 ^ k) (a % 2 ^ k) (mod-lt a (pow_pos k))
    ∙ ap (λ (x : ℕ). ones x + ones (a % 2 ^ k)) (top a k h)
    ∙ ap (λ (x : ℕ). x + ones (a % 2 ^ k)) (ones-digit (bit_of a k) (bit-lt a k))
    ∙ ap (λ (x : ℕ). bit_of a k + x) (ones-size k (a % 2 ^ k) (mod-lt a (pow_pos k)) ∙ size_same k (a % 2 ^ k) a (λ i h. bit-mod a k i h))
    ∙ omega arith

-- a number whose digits past k are dropped: none
pub bit-over : (a k i : ℕ) → a < 2 ^ k → k ≤ i → bit_of a i ≡ 0
bit-over a k i h l = ap (λ (x : ℕ). x % 2) (div-eq_of_lt (lt_of_lt_of_le h (lib.Pow.pow_mono l)))

pub bit-zero : (i : ℕ) → bit_of 0 i ≡ 0
bit-zero i = bit-over 0 0 i (lit< tt) (omega arith)

pub lt-or-le : (i j : ℕ) → (i < j) ⊎ (j ≤ i)
lt-or-le i j = go (ltb i j) refl
  where
    go : (b : Bool) → ltb i j ≡ b → (i < j) ⊎ (j ≤ i)
    go true e = inl (ltb-true i j e)
    go false e = inr (ltb-false i j e)

bit_below : (i j : ℕ) → j < i → bit_of (2 ^ i) j ≡ 0
bit_below i j h =
    let e : i ≡ ((i - suc j) + 1) + j = omega arith in
    ap (λ (m : ℕ). 2 ^ m / 2 ^ j % 2) e ∙ ap (λ (x : ℕ). x / 2 ^ j % 2) (pow-add 2 ((i - suc j) + 1) j)
    ∙ ap (λ (x : ℕ). x % 2) (shl-shr (2 ^ ((i - suc j) + 1)) j) ∙ ap (λ (x : ℕ). x % 2) (pow-add 2 (i - suc j) 1) ∙ mul-mod_left (2 ^ (i - suc j)) 2

-- The one digit of a power of two.
pub bit-single : (i j : ℕ) → eqb (bit_of (2 ^ i) j) 1 ≡ eqb i j
bit-single i j =
    ⊎_elim (λ l. ap (λ (x : ℕ). eqb x 1) (bit-over (2 ^ i) j j (pow-lt l) (le_refl j)) ∙ sym (ne_eqb i j (λ e. omega arith)))
    (λ g. ⊎_elim (λ e. rw e (ap (λ (x : ℕ). eqb (x % 2) 1) (div_self (pow_pos i)) ∙ sym (eq-eqb i i refl)))
    (λ l. ap (λ (x : ℕ). eqb x 1) (bit_below i j l) ∙ sym (ne_eqb i j (λ e. omega arith))) (eq-or-lt_of_le g))
    (lt-or-le i j)
