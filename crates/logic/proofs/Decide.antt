-- A test decides a proposition: it is true exactly where the proposition holds. One law for each way of joining tests.
use mathlib.Core.Path.{◌≡◌, refl, sym, ◌∙◌}
use mathlib.Core.Bool.{Bool, true, false, not}
use mathlib.Core.List.{List, [], ◌∷◌}
use mathlib.Core.Logic.{◌⊎◌, inl, inr, ⊎_elim}
use Prim.Native.Nat.{ℕ, ◌<◌}
use native.Mathlib.Omega.{arith}
use lib.Dec.{eqb, ltb}
use borrow.Author.Tests.{eqb-true, eq-eqb, ltb-true, lt-ltb}
use Rattle.logic.specs.Lists.{Every, Some}
use Rattle.logic.specs.Tests.{Decides, both, every, some}

pub clash : false ≡ true → ⊥
clash e = let z : ◌≡◌ {A = ℕ} 0 1 = cc in omega arith

-- The test as it fell out, with its equation.
pub either_way : (t : Bool) → (t ≡ true) ⊎ (t ≡ false)
either_way true = inl refl
either_way false = inr refl

pub decided : {t : Bool} {P : Type 0} → (t ≡ true → P) → (P → t ≡ true) → Decides t P
decided f g = record { yes = f; no = λ e p. clash (sym e ∙ g p) }

-- Where the proposition holds the test is true.
pub holds : {t : Bool} {P : Type 0} → Decides t P → P → t ≡ true
holds {t} d p = ⊎_elim (λ e. e) (λ e. absurd (d.no e p)) (either_way t)

-- Where it does not hold the test is false.
pub fails : {t : Bool} {P : Type 0} → Decides t P → (P → ⊥) → t ≡ false
fails {t} d n = ⊎_elim (λ e. absurd (n (d.yes e))) (λ e. e) (either_way t)

pub holds-or-not : {t : Bool} {P : Type 0} → Decides t P → P ⊎ (P → ⊥)
holds-or-not {t} d = ⊎_elim (λ e. inl (d.yes e)) (λ e. inr (d.no e)) (either_way t)

pub is : (t : Bool) → Decides t (t ≡ true)
is t = decided (λ e. e) (λ e. e)

pub decides_not : {t : Bool} {P : Type 0} → Decides t P → Decides (not t) (P → ⊥)
decides_not {t} d = decided (go t d) (back t d)
  where
    go : {P : Type 0} (t : Bool) → Decides t P → not t ≡ true → P → ⊥
    go true d e p = clash e
    go false d e p = clash (holds d p)

    back : {P : Type 0} (t : Bool) → Decides t P → (P → ⊥) → not t ≡ true
    back true d n = absurd (n (d.yes refl))
    back false d n = refl

-- Test one, then the other.
pub decides-both : (s t : Bool) {P Q : Type 0} → Decides s P → Decides t Q → Decides (elim s as (λ _. Bool) [ true ↦ t | false ↦ false ]) (P × Q)
decides-both true t d e = decided (λ h. (d.yes refl, e.yes h)) (λ p. holds e p.1)
decides-both false t d e = decided (λ h. absurd (clash h)) (λ p. holds d p.0)

pub decides_and : {s t : Bool} {P Q : Type 0} → Decides s P → Decides t Q → Decides (both s t) (P × Q)
unfolding both
decides_and {s} {t} d e = go s t d e
  where
    go : (s t : Bool) {P Q : Type 0} → Decides s P → Decides t Q → Decides (both s t) (P × Q)
    go true t d e = decided (λ h. (d.yes refl, e.yes h)) (λ p. holds e p.1)
    go false t d e = decided (λ h. absurd (clash h)) (λ p. holds d p.0)

-- Test one, then the other, where the other's law rests on the one.
pub decides-then : (s t : Bool) {P Q : Type 0} → Decides s P → (P → Decides t Q) → Decides (elim s as (λ _. Bool) [ true ↦ t | false ↦ false ]) (P × Q)
decides-then true t d e = let q = e (d.yes refl) in decided (λ h. (d.yes refl, q.yes h)) (λ p. holds q p.1)
decides-then false t d e = decided (λ h. absurd (clash h)) (λ p. holds d p.0)

-- Where the one passes, the other does.
pub decides-imp : (s t : Bool) {P Q : Type 0} → Decides s P → Decides t Q → Decides (elim s as (λ _. Bool) [ true ↦ t | false ↦ true ]) (P → Q)
decides-imp true t d e = decided (λ h p. e.yes h) (λ f. holds e (f (d.yes refl)))
decides-imp false t d e = decided (λ h p. absurd (clash (holds d p))) (λ f. refl)

pub decides-every : {A : Type 0} (f : A → Bool) (P : A → Type 0) → ((x : A) → Decides (f x) (P x)) → (xs : List A) → Decides (every f xs) (Every P xs)
unfolding every
decides-every f P d [] = decided (λ e. tt) (λ p. refl)
decides-every f P d (x ∷ xs) = decides-both (f x) (every f xs) (d x) (decides-every f P d xs)

decides-either : (s t : Bool) {P Q : Type 0} → Decides s P → Decides t Q → Decides (elim s as (λ _. Bool) [ true ↦ true | false ↦ t ]) (P ⊎ Q)
decides-either true t d e = decided (λ h. inl (d.yes refl)) (λ p. refl)
decides-either false t d e = decided (λ h. inr (e.yes h)) (λ p. ⊎_elim (λ q. absurd (clash (holds d q))) (holds e) p)

pub decides-some : {A : Type 0} (f : A → Bool) (P : A → Type 0) → ((x : A) → Decides (f x) (P x)) → (xs : List A) → Decides (some f xs) (Some P xs)
unfolding some
decides-some f P d [] = decided (λ e. clash e) (λ p. absurd p)
decides-some f P d (x ∷ xs) = decides-either (f x) (some f xs) (d x) (decides-some f P d xs)

pub decides_eq : (a b : ℕ) → Decides (eqb a b) (a ≡ b)
decides_eq a b = decided (eqb-true a b) (eq-eqb a b)

pub decides-lt : (a b : ℕ) → Decides (ltb a b) (a < b)
decides-lt a b = decided (ltb-true a b) (lt-ltb a b)

-- The same proposition in other words.
pub reworded : {t : Bool} {P Q : Type 0} → Decides t P → (P → Q) → (Q → P) → Decides t Q
reworded d f g = decided (λ e. f (d.yes e)) (λ q. holds d (g q))
