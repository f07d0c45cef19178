-- The size of a set of the numbers 1 to k is its count of ones over k digits, for any width k: the laws of sizes.
use mathlib.Core.Path.{◌≡◌, refl, sym, ap, ◌∙◌}
use mathlib.Core.Logic.{◌⊎◌, inl, inr, ⊎_elim}
use Prim.Native.Nat.{ℕ, zero, suc, ◌+◌, ◌-◌, ◌*◌, ◌/◌, ◌%◌, ◌^◌, ◌<◌, ◌≤◌}
use native.Mathlib.Nat.{add-zero, add-suc, mod-eq_of_lt}
use native.Mathlib.Omega.{arith}
use lib.Pow.{high, low, pow_pos, pow_mono, shr-shr, mod-pow-add}
use Rattle.logic.proofs.Decide.{decides_eq, holds-or-not}
use Rattle.sets.specs.Sets.{size_to, size, Within}
use Rattle.sets.proofs.Digits.{bit-lt, bit-mod, bit-over, bit-zero}

-- ---- digits that count nothing
-- Another d digits past the width are 0.
size-past : (k d a : ℕ) → a < 2 ^ k → size_to (k + d) a ≡ size_to k a
unfolding size_to
size-past k zero a h = ap (λ (m : ℕ). size_to m a) (add-zero k)
size-past k (suc d) a h =
    ap (λ (m : ℕ). size_to m a) (add-suc k d) ∙ omega (arith, size-past k d a h, bit-over a k (k + d) h (omega arith))

pub size_above : (w k a : ℕ) → k ≤ w → a < 2 ^ k → size_to w a ≡ size_to k a
size_above w k a m h = let e : k + (w - k) ≡ w = omega arith in rw e at (size-past k (w - k) a h)

-- The count over k digits is the size.
pub size-narrow : (k a : ℕ) → k ≤ 64 → a < 2 ^ k → size_to k a ≡ size a
unfolding size
size-narrow k a w h = sym (size_above 64 k a w h)

-- The empty set has size 0, also by name.
pub size-zero : (k : ℕ) → size_to k 0 ≡ 0
unfolding size_to
size-zero zero = refl
size-zero (suc k) = let x = size-zero k in let y = bit-zero k in omega arith

-- Of no numbers there is none.
size_none : (a : ℕ) → size_to 0 a ≡ 0
unfolding size_to
size_none a = refl

-- ---- bounds
-- No more of k numbers than k.
pub size-most : (k a : ℕ) → size_to k a ≤ k
unfolding size_to
size-most zero a = omega arith
size-most (suc k) a = let x = size-most k a in let y = bit-lt a k in omega arith

-- A set has no more members than one that contains it.
pub size-grows : (k a b : ℕ) → Within a b → size_to k a ≤ size_to k b
unfolding size_to
size-grows zero a b f = omega arith
size-grows (suc k) a b f = let x = size-grows k a b f in let y = f k in omega arith

-- One digit more.
digit-more : (k a : ℕ) → ((size_to (suc k) a ≡ size_to k a) × (a % 2 ^ suc k ≡ a % 2 ^ k)) ⊎ ((size_to (suc k) a ≡ suc (size_to k a)) × (a % 2 ^ suc k ≡ 2 ^ k + a % 2 ^ k))
unfolding size_to
digit-more k a =
    let e : 1 + k ≡ suc k = omega arith in
    let m = rw e at (mod-pow-add a 1 k) in
    ⊎_elim (λ (o : a / 2 ^ k % 2 ≡ 1). inr (omega arith, m ∙ (rw o (omega arith))))
    (λ (n : a / 2 ^ k % 2 ≡ 1 → ⊥). let o : a / 2 ^ k % 2 ≡ 0 = let x = bit-lt a k in omega arith in inl (omega arith, m ∙ (rw o (omega arith))))
    (holds-or-not (decides_eq (a / 2 ^ k % 2) 1))

-- A set of m numbers is at least that of the first m.
pub size-least : (k a : ℕ) → 2 ^ size_to k a ≤ a % 2 ^ k + 1
size-least zero a = rw (size_none a) (omega arith)
size-least (suc k) a =
    let x = size-least k a in
    let z : 2 ^ size_to k a ≤ 2 ^ k = pow_mono (size-most k a) in
    ⊎_elim (λ c. rw (c.0, c.1) x) (λ c. rw (c.0, c.1) (omega arith)) (digit-more k a)

-- A set of size 0 is empty.
pub size-empty : (k a : ℕ) → size_to k a ≡ 0 → a % 2 ^ k ≡ 0
size-empty zero a e = omega arith
size-empty (suc k) a e = ⊎_elim (λ c. c.1 ∙ size-empty k a (sym c.0 ∙ e)) (λ c. absurd (omega arith)) (digit-more k a)

-- A set of one number at most.
one-member : (k a : ℕ) → size_to k a ≤ 1 → (a % 2 ^ k ≡ 0) ⊎ ((i : ℕ) × (a % 2 ^ k ≡ 2 ^ i))
one-member zero a h = inl (omega arith)
one-member (suc k) a h = ⊎_elim (λ c. rw c.1 (one-member k a (omega arith))) (λ c. inr (k, let e = size-empty k a (omega arith) in omega arith)) (digit-more k a)

pub one-member-most : (a : ℕ) → a < 2 ^ 64 → size a ≤ 1 → (a ≡ 0) ⊎ ((i : ℕ) × (a ≡ 2 ^ i))
unfolding size
one-member-most a l h = let e : a % 2 ^ 64 ≡ a = mod-eq_of_lt l in rw e at (one-member 64 a h)

-- ---- sets in parts
-- The first k numbers alone count.
pub size-mod : (w a k : ℕ) → k ≤ w → size_to k (a % 2 ^ w) ≡ size_to k a
unfolding size_to
size-mod w a zero h = refl
size-mod w a (suc k) h = let x = size-mod w a k (omega arith) in let y = bit-mod a w k (omega arith) in omega arith

-- By its first b numbers and the rest.
pub size-split : (b d h y : ℕ) → y < 2 ^ b → size_to (b + d) (h * 2 ^ b + y) ≡ size_to d h + size_to b y
unfolding size_to
size-split b zero h y l =
    let e = low h b l in
    ap (λ (m : ℕ). size_to m (h * 2 ^ b + y)) (add-zero b) ∙ (sym (rw e at (size-mod b (h * 2 ^ b + y) b (omega arith))) ∙ omega arith)
size-split b (suc d) h y l =
    let e = rw (high h b l) at (shr-shr (h * 2 ^ b + y) b d) in
    ap (λ (m : ℕ). size_to m (h * 2 ^ b + y)) (add-suc b d) ∙ (let x = size-split b d h y l in rw (← e) (omega arith))

-- With the number after the first w.
pub size-with : (w v : ℕ) → v < 2 ^ w → size_to (suc w) (2 ^ w + v) ≡ suc (size_to w v)
unfolding size_to
size-with w v h =
    let e : 1 * 2 ^ w + v ≡ 2 ^ w + v = omega arith in
    let x = rw e at (high 1 w h) in
    let y = rw (rw e at (low 1 w h)) at (size-mod w (2 ^ w + v) w (omega arith)) in
    rw x (omega arith)

-- The first m numbers, of m or more.
size-ones : (m : ℕ) → size_to m (2 ^ m - 1) ≡ m
size-ones zero = size-zero 0
size-ones (suc m) =
    let p = pow_pos m in
    let e : 2 ^ suc m - 1 ≡ 2 ^ m + (2 ^ m - 1) = omega arith in
    rw e (size-with m (2 ^ m - 1) (omega arith) ∙ ap suc (size-ones m))

pub size-first : (w m : ℕ) → m ≤ w → size_to w (2 ^ m - 1) ≡ m
size-first w m h = let p = pow_pos m in size_above w m (2 ^ m - 1) h (omega arith) ∙ size-ones m

-- A set without 1, and the same with it.
pub size-even : (d h : ℕ) → h % 2 ≡ 0 → size_to (suc d) (h + 1) ≡ size_to (suc d) h + 1
size-even d h e =
    let w : 1 + d ≡ suc d = omega arith in
    let a : h / 2 * 2 ^ 1 + 0 ≡ h = omega arith in
    let b : h / 2 * 2 ^ 1 + 1 ≡ h + 1 = omega arith in
    let x = rw (w, a, size-zero 1) at (size-split 1 d (h / 2) 0 (omega arith)) in
    let y = rw (w, b) at (size-split 1 d (h / 2) 1 (omega arith)) in
    let z : size_to 1 1 ≡ 1 = size-ones 1 in
    omega arith
