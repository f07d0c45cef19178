-- A pair with one member: any pair has it whole or not at all, and the highest member of a word makes one.
-- By cases on the word in which the member stands, from the laws of one place of a word (sets, single).
use mathlib.Core.Path.{◌≡◌, ap, ◌∙◌}
use mathlib.Core.Logic.{⊎_elim}
use Prim.Native.Nat.{ℕ, zero, suc, ◌+◌, ◌-◌, ◌*◌, ◌/◌, ◌^◌, ◌%◌, ◌<◌, ◌≤◌}
use native.Mathlib.Nat.{le_refl}
use native.Mathlib.Omega.{arith}
use lib.Pow.{high}
use Rattle.sets.specs.declared.Pair.{Pair}
use Rattle.sets.specs.Sets.{bit_of, Within, Apart}
use Rattle.sets.specs.Pairs.{Sub, Off, Atom}
use Rattle.sets.proofs.Digits.{shifted}
use Rattle.sets.proofs.Words as N
use Rattle.sets.proofs.Words.{none-sub, none-off, single-has}
use Rattle.sets.proofs.Pairs.{atom-held, atom-denied, atom-taken}
use Rattle.bounds.specs.Singles.{word_of, one_of, Place, Picked}

-- ---- the pair made
module _ (k : ℕ) (h : k < 64) where
  pub one-held : ◌≡◌ {A = Pair} (record { taken = 0; held = 1 * 2 ^ k % 2 ^ 64; denied = 0 }) (one_of 0 k)
  unfolding one_of
  one-held = rw (shifted k h)

  pub one-denied : ◌≡◌ {A = Pair} (record { taken = 0; held = 0; denied = 1 * 2 ^ k % 2 ^ 64 }) (one_of 1 k)
  unfolding one_of
  one-denied = rw (shifted k h)

  pub one-taken : ◌≡◌ {A = Pair} (record { taken = 1 * 2 ^ k % 2 ^ 64; held = 0; denied = 0 }) (one_of 2 k)
  unfolding one_of
  one-taken = rw (shifted k h)

-- ---- its laws
own-place : (k : ℕ) → bit_of (2 ^ k) k ≡ 1
own-place k = single-has k (2 ^ k) (λ i. le_refl _)

pub has-place : (k x : ℕ) → bit_of x k ≡ 1 → Within (2 ^ k) x
has-place k x e = ⊎_elim (λ f. f) (λ f. absurd (let q = f k in omega (arith, own-place k))) (N.single k x)

not_none : (k : ℕ) → Apart (2 ^ k) (2 ^ k) → ⊥
not_none k f = let q = f k in omega (arith, own-place k)

pub one-atom : (s k : ℕ) → Atom (one_of s k)
unfolding one_of
one-atom zero k = atom-held k
one-atom (suc zero) k = atom-denied k
one-atom (suc (suc s)) k = atom-taken k

pub one-some : (s k : ℕ) → Off (one_of s k) (one_of s k) → ⊥
unfolding one_of
one-some zero k f = not_none k f.held
one-some (suc zero) k f = not_none k f.denied
one-some (suc (suc s)) k f = not_none k f.taken

one_inside : (s k : ℕ) (x : Pair) → bit_of (word_of s x) k ≡ 1 → Sub (one_of s k) x
unfolding one_of word_of
one_inside zero k x e = record { held = has-place k x.held e; denied = none-sub x.denied; taken = none-sub x.taken }
one_inside (suc zero) k x e = record { held = none-sub x.held; denied = has-place k x.denied e; taken = none-sub x.taken }
one_inside (suc (suc s)) k x e = record { held = none-sub x.held; denied = none-sub x.denied; taken = has-place k x.taken e }

pub one-picked : (s k : ℕ) (x m : Pair) → m ≡ one_of s k → Place (word_of s x) k → Picked x m
one-picked s k x m e p = rw e (record { atom = one-atom s k; some = one-some s k; inside = λ n. one_inside s k x p.member })

none_left : (a : ℕ) → a ≤ 0 → Apart a a
none_left a h i = let e : a ≡ 0 = omega arith in rw e (none-off 0 i)

pub none-picked : (x m : Pair) → m ≡ one_of 0 0 → x.held ≤ 0 → x.denied ≤ 0 → x.taken ≤ 0 → Picked x m
none-picked x m e a b c =
    rw e (record {
      atom = one-atom 0 0;
      some = one-some 0 0;
      inside = λ n. absurd (n (record { held = none_left _ a; denied = none_left _ b; taken = none_left _ c }));
    })

-- ---- the highest member
pub top-place : (x j : ℕ) → j < 64 → 2 ^ j ≤ x → x < 2 * 2 ^ j → Place x j
top-place x j s l g =
    let q : x ≡ 1 * 2 ^ j + (x - 2 ^ j) = omega arith in
    let r : x - 2 ^ j < 2 ^ j = omega arith in
    record { small = s; member = ap (λ (y : ℕ). y / 2 ^ j % 2) q ∙ ap (λ (y : ℕ). y % 2) (high 1 j r) }
