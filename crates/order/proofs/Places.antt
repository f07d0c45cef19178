-- The laws of any order that meets the rule: each set has one place, an earlier set has an earlier place, and there is one such order.
use mathlib.Core.Path.{◌≡◌, sym, ap, ◌∙◌}
use Prim.Native.Nat.{ℕ, zero, suc, ◌^◌, ◌<◌, ◌≤◌}
use native.Mathlib.Omega.{arith}
use Rattle.order.specs.Order.{Earlier, fewer, smaller, Ordered}

-- No two sets are each before the other.
earlier-asym : {a b : ℕ} → Earlier a b → Earlier b a → ⊥
earlier-asym (fewer l) (fewer m) = omega arith
earlier-asym (fewer l) (smaller e m) = omega arith
earlier-asym (smaller d l) (fewer m) = omega arith
earlier-asym (smaller d l) (smaller e m) = omega arith

-- No set is before itself.
earlier-irrefl : {a b : ℕ} → a ≡ b → Earlier a b → ⊥
earlier-irrefl e l = let m = rw e at l in earlier-asym m m

module _ {w : ℕ} {f : ℕ → ℕ} (rule : Ordered w f) where
  -- Each set is present once: no two places have the same set.
  pub once : (j k : ℕ) → j < 2 ^ w → k < 2 ^ w → f j ≡ f k → j ≡ k
  once j k hj hk e =
      let a : j < k → ⊥ = λ l. earlier-irrefl e (rule.rises j k l hk) in
      let b : k < j → ⊥ = λ l. earlier-irrefl (sym e) (rule.rises k j l hj) in
      omega arith

  -- An earlier set has an earlier place.
  pub place-earlier : (j k : ℕ) → j < 2 ^ w → Earlier (f j) (f k) → j < k
  place-earlier j k hj l =
      let a : k < j → ⊥ = λ m. earlier-asym l (rule.rises k j m hj) in
      let b : j ≡ k → ⊥ = λ e. earlier-irrefl (ap f e) l in
      omega arith

-- Two sets stand in the same order wherever they stand, with the same number of exceptions or not: a book passes over the sets above its own exceptions,
-- and those that are left keep their order.
pub same-order : {w x : ℕ} {f g : ℕ → ℕ} → Ordered w f → Ordered x g → (j k i l : ℕ) → k < 2 ^ w → i < 2 ^ x → f j ≡ g i → f k ≡ g l → j < k → i < l
same-order {w} {x} {f} {g} rf rg j k i l hk hi a b m = place-earlier {w = x} {f = g} rg i l hi (rw (a, b) at (rf.rises j k m hk))

-- The place of a set in one order is not before its place in another: the sets before it stand before it in both.
not-before : {w : ℕ} {f g : ℕ → ℕ} → Ordered w f → Ordered w g → (k j : ℕ) → k < 2 ^ w → j < 2 ^ w → g j ≡ f k → k ≤ j
not-before rf rg zero j hk hj e = omega arith
not-before {w} {f} {g} rf rg (suc k) j hk hj e =
    let l : k < 2 ^ w = omega arith in
    let p = rg.present (f k) (rf.below k l) in
    let m = not-before {w = w} {f = f} {g = g} rf rg k p.0 l p.1 p.2 in
    let n = same-order {w = w} {x = w} {f = f} {g = g} rf rg k (suc k) p.0 j hk p.1 (sym p.2) (sym e) (omega arith) in
    omega arith

-- The rule says which set stands at each place: two orders that meet it are the same.
pub one-order : {w : ℕ} {f g : ℕ → ℕ} → Ordered w f → Ordered w g → (k : ℕ) → k < 2 ^ w → f k ≡ g k
one-order {w} {f} {g} rf rg k h =
    let p = rg.present (f k) (rf.below k h) in
    let a = not-before {w = w} {f = f} {g = g} rf rg k p.0 h p.1 p.2 in
    let b = not-before {w = w} {f = g} {g = f} rg rf p.0 k p.1 h (sym p.2) in
    let e : p.0 ≡ k = omega arith in
    sym p.2 ∙ ap g e
