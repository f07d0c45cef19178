-- Sets in one word: unions, common parts and differences by digits, tests, and members.
use mathlib.Core.Path.{◌≡◌, refl, sym, ap, ◌∙◌}
use mathlib.Core.Bool.{Bool, true, false, not}
use mathlib.Core.Logic.{◌⊎◌, inl, inr}
use Prim.Native.Nat.{ℕ, zero, suc, ◌+◌, ◌-◌, ◌^◌, ◌<◌, ◌≤◌, max}
use native.Mathlib.Omega.{arith}
use lib.Bits.{bit_and, bit_or, or_add_and, and_le_l, and_le_r, xor_add_and}
use lib.Dec.{eqb}
use lib.Pow.{pow_pos}
use borrow.Author.Tests.{eqb-true, eqb-false, eq-eqb, ne_eqb}
use Rattle.logic.specs.Tests.{Decides, both, either}
use Rattle.logic.proofs.Decide.{clash}
use Rattle.sets.specs.Sets.{member, Contained, Separate, bit_of, Within, Apart, without}
use Rattle.sets.proofs.Digits.{lt-pow, bit-lt, bit-and, bit-or, bit-without, bit-zero, bit-over, bit-single, ext, by_digits}

-- ---- by digits
no_bits : (a : ℕ) → ((i : ℕ) → bit_of a i ≡ 0) → a ≡ 0
no_bits a f = ext a a 0 (lt-pow a) (pow_pos a) (λ i h. f i ∙ sym (bit-zero i))

pub or-zero : (a b : ℕ) → bit_or a b ≡ 0 → (a ≡ 0) × (b ≡ 0)
or-zero a b e = omega (arith, or_add_and a b, and_le_r a b, and_le_l a b)

pub sub-or : (a b t : ℕ) → Within a t → Within b t → Within (bit_or a b) t
sub-or a b t f g i = omega (arith, bit-or a b i, f i, g i)

pub or_l : (a b : ℕ) → Within a (bit_or a b)
or_l a b i = omega (arith, bit-or a b i)

pub or_r : (a b : ℕ) → Within b (bit_or a b)
or_r a b i = omega (arith, bit-or a b i)

pub sub-and : (a b t : ℕ) → Within t a → Within t b → Within t (bit_and a b)
sub-and a b t f g i = omega (arith, bit-and a b i, f i, g i)

pub and_l : (a b : ℕ) → Within (bit_and a b) a
and_l a b i = omega (arith, bit-and a b i)

pub and_r : (a b : ℕ) → Within (bit_and a b) b
and_r a b i = omega (arith, bit-and a b i)

-- v is within b and apart from m: within b without m.
pub sub-minus : (v b m : ℕ) → Within v b → Apart v m → Within v (without b m)
sub-minus v b m f g i = omega (arith, bit-without b m i, f i, g i, bit-lt b i)

pub minus-sub : (a b : ℕ) → Within (without a b) a
minus-sub a b i = omega (arith, bit-without a b i)

pub minus-off : (a b : ℕ) → Apart (without a b) b
minus-off a b i = omega (arith, bit-without a b i, bit-lt a i, bit-lt b i)

-- What a has beyond b is in t, and so is b.
pub sub-of-minus : (a b t : ℕ) → Within (without a b) t → Within b t → Within a t
sub-of-minus a b t f g i = omega (arith, bit-without a b i, f i, g i, bit-lt a i)

pub off-sub : (a b c d : ℕ) → Within a b → Within c d → Apart b d → Apart a c
off-sub a b c d f g h i = omega (arith, f i, g i, h i)

-- v is within h, and what a has of h is apart from v.
pub off-of-meet : (a v h : ℕ) → Within v h → Apart (bit_and a h) v → Apart a v
off-of-meet a v h f g i = omega (arith, bit-and a h i, f i, g i, bit-lt a i, bit-lt v i)

-- ---- the two ways round a test
pub minus-zero : (a b : ℕ) → without a b ≡ 0 → Within a b
minus-zero a b e i = let z = ap (λ (x : ℕ). bit_of x i) e ∙ bit-zero i in omega (arith, bit-without a b i)

pub zero_minus : (a b : ℕ) → Within a b → without a b ≡ 0
zero_minus a b f = no_bits (without a b) (λ i. let q = f i in omega (arith, bit-without a b i))

pub and_none : (a b : ℕ) → bit_and a b ≡ 0 → Apart a b
and_none a b e i = let z = ap (λ (x : ℕ). bit_of x i) e ∙ bit-zero i in omega (arith, bit-and a b i, bit-lt a i, bit-lt b i)

pub none-and : (a b : ℕ) → Apart a b → bit_and a b ≡ 0
none-and a b f = no_bits (bit_and a b) (λ i. let q = f i in omega (arith, bit-and a b i))

-- A test of a word against zero.
pub decide : (x : ℕ) (P : Type 0) → (x ≡ 0 → P) → (P → x ≡ 0) → Decides (eqb x 0) P
decide x P f g = record { yes = λ e. f (eqb-true x 0 e); no = λ e p. eqb-false x 0 e (g p) }

-- A set within another is not a larger number.
pub sub-le : (a b : ℕ) → Within a b → a ≤ b
sub-le a b f = let z = zero_minus a b f in omega (arith, xor_add_and a (bit_and a b), and_le_r a (bit_and a b), and_le_r a b)

pub both_ways : (a b : ℕ) → Within a b → Within b a → a ≡ b
both_ways a b f g = omega (arith, sub-le a b f, sub-le b a g)

-- A set of one number is within a set, or apart from it.
pub single : (k v : ℕ) → (Within (2 ^ k) v) ⊎ (Apart (2 ^ k) v)
single k v = go (bit_of v k) refl (bit-lt v k)
  where
    at : (i : ℕ) → ((k ≡ i → ⊥) → bit_of (2 ^ k) i ≡ 0)
    at i n =
        let f = eqb-false (bit_of (2 ^ k) i) 1 (bit-single k i ∙ ne_eqb k i n) in
        let l = bit-lt (2 ^ k) i in
        omega arith

    inside : bit_of v k ≡ 1 → (i : ℕ) (b : Bool) → eqb k i ≡ b → bit_of (2 ^ k) i ≤ bit_of v i
    inside e i true q = let h : bit_of v i ≡ 1 = rw (eqb-true k i q) at e in let l = bit-lt (2 ^ k) i in omega arith
    inside e i false q = let z = at i (eqb-false k i q) in omega arith

    outside : bit_of v k ≡ 0 → (i : ℕ) (b : Bool) → eqb k i ≡ b → bit_of (2 ^ k) i + bit_of v i ≤ 1
    outside e i true q = let h : bit_of v i ≡ 0 = rw (eqb-true k i q) at e in let l = bit-lt (2 ^ k) i in omega arith
    outside e i false q = let z = at i (eqb-false k i q) in let l = bit-lt v i in omega arith

    go : (x : ℕ) → bit_of v k ≡ x → x < 2 → (Within (2 ^ k) v) ⊎ (Apart (2 ^ k) v)
    go zero e h = inr (λ i. outside e i (eqb k i) refl)
    go (suc zero) e h = inl (λ i. inside e i (eqb k i) refl)
    go (suc (suc x)) e h = absurd (omega arith)

pub none-sub : (v : ℕ) → Within 0 v
none-sub v i = omega (arith, bit-zero i)

pub none-off : (v : ℕ) → Apart 0 v
none-off v i = omega (arith, bit-zero i, bit-lt v i)

pub single-has : (k v : ℕ) → Within (2 ^ k) v → bit_of v k ≡ 1
single-has k v f =
    let o = eqb-true (bit_of (2 ^ k) k) 1 (bit-single k k ∙ eq-eqb k k refl) in
    omega (arith, f k, bit-lt v k)

-- ---- by members
-- Number k + 1 is the digit at place k.
pub member-suc : (k a : ℕ) → member (suc k) a ≡ eqb (bit_of a k) 1
unfolding member
member-suc k a = let e : suc k - 1 ≡ k = omega arith in rw e refl

pub member-or : (i a b : ℕ) → member i (bit_or a b) ≡ either (member i a) (member i b)
unfolding member either
member-or i a b =
    rw (bit-or a b (i - 1)) (by_digits (λ x y. eqb (max x y) 1 ≡ either (eqb x 1) (eqb y 1)) refl refl refl refl
    (bit_of a (i - 1)) (bit_of b (i - 1)) (bit-lt a (i - 1)) (bit-lt b (i - 1)))

pub member-without : (i a b : ℕ) → member i (without a b) ≡ both (member i a) (not (member i b))
unfolding member both
member-without i a b =
    rw (bit-without a b (i - 1)) (by_digits (λ x y. eqb (x - y) 1 ≡ both (eqb x 1) (not (eqb y 1))) refl refl refl refl
    (bit_of a (i - 1)) (bit_of b (i - 1)) (bit-lt a (i - 1)) (bit-lt b (i - 1)))

-- The set of number i alone.
pub member-single : (i j : ℕ) → member j (2 ^ (i - 1)) ≡ eqb (i - 1) (j - 1)
unfolding member
member-single i j = bit-single (i - 1) (j - 1)

-- Numbers from 1 on are equal where their places are.
pub same_place : (i j : ℕ) → 0 < i → 0 < j → eqb (i - 1) (j - 1) ≡ eqb i j
same_place i j hi hj = go (eqb i j) refl
  where
    go : (b : Bool) → eqb i j ≡ b → eqb (i - 1) (j - 1) ≡ b
    go true e = let q = eqb-true i j e in eq-eqb (i - 1) (j - 1) (omega arith)
    go false e = ne_eqb (i - 1) (j - 1) (λ p. eqb-false i j e (omega arith))

pub member-empty : (i : ℕ) → member i 0 ≡ false
unfolding member
member-empty i = ap (λ (x : ℕ). eqb x 1) (bit-zero (i - 1))

-- A number past k is not in a set below 2 ^ k.
pub member-past : (a k i : ℕ) → a < 2 ^ k → k ≤ i - 1 → member i a ≡ false
unfolding member
member-past a k i h l = ap (λ (x : ℕ). eqb x 1) (bit-over a k (i - 1) h l)

-- A contained set is within by digits, and the other way round.
pub contained-within : (a b : ℕ) → Contained a b → Within a b
contained-within a b f k =
    by_digits (λ x y. (eqb x 1 ≡ true → eqb y 1 ≡ true) → x ≤ y) (λ g. omega arith) (λ g. omega arith) (λ g. absurd (clash (g refl))) (λ g. omega arith)
    (bit_of a k) (bit_of b k) (bit-lt a k) (bit-lt b k) (λ e. sym (member-suc k b) ∙ f (suc k) (member-suc k a ∙ e))

pub within-contained : (a b : ℕ) → Within a b → Contained a b
unfolding member
within-contained a b f i e = eq-eqb (bit_of b (i - 1)) 1 (let q = eqb-true (bit_of a (i - 1)) 1 e in omega (arith, f (i - 1), bit-lt b (i - 1)))

pub separate-apart : (a b : ℕ) → Separate a b → Apart a b
separate-apart a b f k =
    by_digits (λ x y. (eqb x 1 ≡ true → eqb y 1 ≡ true → ⊥) → x + y ≤ 1) (λ g. omega arith) (λ g. omega arith) (λ g. omega arith) (λ g. absurd (g refl refl))
    (bit_of a k) (bit_of b k) (bit-lt a k) (bit-lt b k) (λ e d. f (suc k) (member-suc k a ∙ e) (member-suc k b ∙ d))

pub apart-separate : (a b : ℕ) → Apart a b → Separate a b
unfolding member
apart-separate a b f i e d =
    let p = eqb-true (bit_of a (i - 1)) 1 e in
    let q = eqb-true (bit_of b (i - 1)) 1 d in
    omega (arith, f (i - 1))

pub contained-same : (a b : ℕ) → Contained a b → Contained b a → a ≡ b
contained-same a b f g = both_ways a b (contained-within a b f) (contained-within b a g)

-- A set is its members.
pub same-members : (a b : ℕ) → ((i : ℕ) → member i a ≡ member i b) → a ≡ b
same-members a b f = contained-same a b (λ i e. sym (f i) ∙ e) (λ i e. f i ∙ e)

-- ---- what the functions on one word promise
pub subset-is : (a b : ℕ) → Decides (eqb (without a b) 0) (Contained a b)
subset-is a b = decide (without a b) (Contained a b) (λ e. within-contained a b (minus-zero a b e)) (λ f. zero_minus a b (contained-within a b f))

pub separate-is : (a b : ℕ) → Decides (eqb (bit_and a b) 0) (Separate a b)
separate-is a b = decide (bit_and a b) (Separate a b) (λ e. apart-separate a b (and_none a b e)) (λ f. none-and a b (separate-apart a b f))

pub off-is : (a b : ℕ) → Decides (eqb (bit_and a b) 0) (Apart a b)
off-is a b = decide (bit_and a b) (Apart a b) (and_none a b) (none-and a b)

pub empty-is : (a : ℕ) → Decides (eqb a 0) ((j : ℕ) → member j a ≡ false)
empty-is a = decide a ((j : ℕ) → member j a ≡ false) (λ e j. rw e (member-empty j)) (λ f. same-members a 0 (λ i. f i ∙ sym (member-empty i)))

pub added : (i a j : ℕ) → 0 < i → 0 < j → member j (bit_or a (2 ^ (i - 1))) ≡ either (member j a) (eqb i j)
added i a j hi hj = member-or j a (2 ^ (i - 1)) ∙ ap (either (member j a)) (member-single i j ∙ same_place i j hi hj)
