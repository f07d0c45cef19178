-- The order of pairs is a strict total order on the lawful pairs of a book. Idea of totality: look at the statements 1 to n in turn.
use mathlib.Core.Path.{◌≡◌, refl, sym, ◌∙◌}
use mathlib.Core.Bool.{Bool, true, false}
use mathlib.Core.Logic.{◌⊎◌, inl, inr, ⊎_elim}
use Prim.Native.Nat.{ℕ, zero, suc, ◌+◌, ◌-◌, ◌<◌, ◌≤◌}
use native.Mathlib.Nat.{eq-or-lt_of_le}
use native.Mathlib.Omega.{arith}
use Rattle.sets.specs.Sets.{member, size}
use Rattle.sets.specs.declared.Pair.{Pair}
use Rattle.sets.proofs.Digits.{lt-or-le}
use Rattle.sets.proofs.Words.{member-past, same-members}
use Rattle.meaning.specs.Literals.{is_in}
use Rattle.meaning.specs.Books.{Book, Lawful}
use Rattle.meaning.specs.Order.{value_of, value, Before, fewer, smaller, differs}

-- Numbers are smaller, equal or larger.
pub three : (a b : ℕ) → (a < b) ⊎ (a ≡ b) ⊎ (b < a)
three a b = ⊎_elim (λ l. inl l) (λ g. ⊎_elim (λ e. inr (inl (sym e))) (λ l. inr (inr l)) (eq-or-lt_of_le g)) (lt-or-le a b)

-- No pair comes before itself.
pub before-irreflexive : (p : Pair) → Before p p → ⊥
before-irreflexive p (fewer h) = omega arith
before-irreflexive p (smaller e h) = omega arith
before-irreflexive p (differs e i z s h) = omega arith

pub before-transitive : (p q r : Pair) → Before p q → Before q r → Before p r
before-transitive p q r (fewer h) (fewer k) = fewer (omega arith)
before-transitive p q r (fewer h) (smaller f k) = fewer (omega arith)
before-transitive p q r (fewer h) (differs f j y t k) = fewer (rw f at h)
before-transitive p q r (smaller e h) (fewer k) = fewer (omega arith)
before-transitive p q r (smaller e h) (smaller f k) = smaller (e ∙ f) (omega arith)
before-transitive p q r (smaller e h) (differs f j y t k) = smaller (rw f at e) (omega arith)
before-transitive p q r (differs e i z s h) (fewer k) = fewer (rw e k)
before-transitive p q r (differs e i z s h) (smaller f k) = smaller (rw e f) (omega arith)
before-transitive p q r (differs e i z s h) (differs f j y t k) = go (three i j)
  where
    go : (i < j) ⊎ (i ≡ j) ⊎ (j < i) → Before p r
    go (inl l) = differs (e ∙ f) i z (λ m w x. s m w x ∙ t m w (omega arith)) (rw (← t i z l) h)
    go (inr (inl o)) = differs (e ∙ f) i z (λ m w x. s m w x ∙ t m w (omega arith)) (let k' : value q i < value r i = rw o k in omega arith)
    go (inr (inr l)) = differs (e ∙ f) j y (λ m w x. s m w (omega arith) ∙ t m w x) (rw (s j y l) k)

-- ---- totality
-- Pairs that say the same of a statement hold it alike, and coherent ones deny it alike.
pub held-digit : (p q : Pair) (i : ℕ) → value p i ≡ value q i → member i p.held ≡ member i q.held
unfolding value value_of
held-digit p q i e = go (member i p.held) (member i p.denied) (member i q.held) (member i q.denied) e
  where
    go : (a b c d : Bool) → value_of a b ≡ value_of c d → a ≡ c
    go true b true d e = refl
    go false b false d e = refl
    go true b false true e = absurd (omega arith)
    go true b false false e = absurd (omega arith)
    go false true true d e = absurd (omega arith)
    go false false true d e = absurd (omega arith)

pub denied-digit : (p q : Pair) (i : ℕ) → (member i p.held ≡ true → member i p.denied ≡ true → ⊥) → (member i q.held ≡ true → member i q.denied ≡ true → ⊥)
    → value p i ≡ value q i → member i p.denied ≡ member i q.denied
unfolding value value_of
denied-digit p q i x y e = go (member i p.held) (member i p.denied) (member i q.held) (member i q.denied) x y e
  where
    go : (a b c d : Bool) → (a ≡ true → b ≡ true → ⊥) → (c ≡ true → d ≡ true → ⊥)
        → value_of a b ≡ value_of c d → b ≡ d
    go a true c true x y e = refl
    go a false c false x y e = refl
    go true true c false x y e = absurd (x refl refl)
    go false true true false x y e = absurd (omega arith)
    go false true false false x y e = absurd (omega arith)
    go a false true true x y e = absurd (y refl refl)
    go true false false true x y e = absurd (omega arith)
    go false false false true x y e = absurd (omega arith)

-- The statements below i agree; look at the k that follow.
look : (p q : Pair) → p.taken ≡ q.taken → (k i : ℕ) → 0 < i → ((j : ℕ) → 0 < j → j < i → value p j ≡ value q j)
    → Before p q ⊎ ((j : ℕ) → 0 < j → j < i + k → value p j ≡ value q j) ⊎ Before q p
look p q e zero i z s = inr (inl (λ j y l. s j y (omega arith)))
look p q e (suc k) i z s = go (three (value p i) (value q i)) (look p q e k (suc i))
  where
    go : (value p i < value q i) ⊎ (value p i ≡ value q i) ⊎ (value q i < value p i)
        → (0 < suc i → ((j : ℕ) → 0 < j → j < suc i → value p j ≡ value q j) → Before p q ⊎ ((j : ℕ) → 0 < j → j < suc i + k → value p j ≡ value q j) ⊎ Before q p)
        → Before p q ⊎ ((j : ℕ) → 0 < j → j < i + suc k → value p j ≡ value q j) ⊎ Before q p
    go (inl l) ih = inl (differs e i z s l)
    go (inr (inr l)) ih = inr (inr (differs (sym e) i z (λ j y w. sym (s j y w)) l))
    go (inr (inl v)) ih =
        ⊎_elim (λ b. inl b) (λ o. ⊎_elim (λ a. inr (inl (λ j y l. a j y (omega arith)))) (λ b. inr (inr b)) o)
        (ih (omega arith) (λ j y l. ⊎_elim (λ w. rw w v) (λ w. s j y w) (eq-or-lt_of_le (omega arith))))

-- Lawful pairs that agree on the exceptions and on every statement are equal.
agree : (b : Book) (p q : Pair) → Lawful b p → Lawful b q → p.taken ≡ q.taken → ((j : ℕ) → 0 < j → j < 1 + b.statements → value p j ≡ value q j) → p ≡ q
unfolding is_in member
agree b p q l m e s =
    let h : p.held ≡ q.held = same-members p.held q.held (λ i. held_all i (lt-or-le (i - 1) b.statements)) in
    let d : p.denied ≡ q.denied = same-members p.denied q.denied (λ i. denied-all i (lt-or-le (i - 1) b.statements)) in
    λ i. record { taken = e i; held = h i; denied = d i }
  where
    up : (i a : ℕ) → member (suc (i - 1)) a ≡ member i a
    up i a = let e : suc (i - 1) - 1 ≡ i - 1 = omega arith in rw e

    held_all : (i : ℕ) → (i - 1 < b.statements) ⊎ (b.statements ≤ i - 1) → member i p.held ≡ member i q.held
    held_all i (inl g) = sym (up i p.held) ∙ held-digit p q (suc (i - 1)) (s (suc (i - 1)) (omega arith) (omega arith)) ∙ up i q.held
    held_all i (inr g) = member-past p.held b.statements i l.held g ∙ sym (member-past q.held b.statements i m.held g)

    denied-all : (i : ℕ) → (i - 1 < b.statements) ⊎ (b.statements ≤ i - 1) → member i p.denied ≡ member i q.denied
    denied-all i (inl g) =
        sym (up i p.denied) ∙ denied-digit p q (suc (i - 1)) (l.apart (suc (i - 1))) (m.apart (suc (i - 1))) (s (suc (i - 1)) (omega arith) (omega arith)) ∙ up i q.denied
    denied-all i (inr g) = member-past p.denied b.statements i l.denied g ∙ sym (member-past q.denied b.statements i m.denied g)

-- Of two lawful pairs one comes before the other, or they are equal.
pub before-total : (b : Book) (p q : Pair) → Lawful b p → Lawful b q → Before p q ⊎ (p ≡ q) ⊎ Before q p
before-total b p q l m = go (three (size p.taken) (size q.taken)) (three p.taken q.taken)
  where
    go : (size p.taken < size q.taken) ⊎ (size p.taken ≡ size q.taken) ⊎ (size q.taken < size p.taken)
        → (p.taken < q.taken) ⊎ (p.taken ≡ q.taken) ⊎ (q.taken < p.taken) → Before p q ⊎ (p ≡ q) ⊎ Before q p
    go (inl c) t = inl (fewer c)
    go (inr (inr c)) t = inr (inr (fewer c))
    go (inr (inl c)) (inl t) = inl (smaller c t)
    go (inr (inl c)) (inr (inr t)) = inr (inr (smaller (sym c) t))
    go (inr (inl c)) (inr (inl t)) =
        ⊎_elim (λ x. inl x) (λ o. ⊎_elim (λ a. inr (inl (agree b p q l m t a))) (λ x. inr (inr x)) o) (look p q t b.statements 1 (omega arith) (λ j y w. absurd (omega arith)))
