-- Every member of a list: by equivalent properties, of joined lists, and by places; some member by its place.
-- Each by induction on the list.
use mathlib.Core.List.{List, [], ◌∷◌, ◌++◌}
use mathlib.Core.Logic.{◌⊎◌, inl, inr, ⊎_elim, ◌↔◌}
use Prim.Native.Nat.{ℕ, zero, suc, ◌<◌}
use native.Mathlib.Omega.{arith}
use lib.ListN.{length, get_or}
use Rattle.logic.specs.Lists.{Every, Some}

pub every-iff : {A : Type 0} (P Q : A → Type 0) → ((x : A) → P x ↔ Q x) → (xs : List A) → Every P xs ↔ Every Q xs
every-iff P Q f [] = (λ h. tt, λ h. tt)
every-iff P Q f (x ∷ xs) = let ih = every-iff P Q f xs in (λ h. ((f x).0 h.0, ih.0 h.1), λ h. ((f x).1 h.0, ih.1 h.1))

pub every_append : {A : Type 0} (P : A → Type 0) (xs ys : List A) → Every P (xs ++ ys) ↔ (Every P xs × Every P ys)
every_append P [] ys = (λ h. (tt, h), λ h. h.1)
every_append P (x ∷ xs) ys = let ih = every_append P xs ys in (λ h. let k = ih.0 h.1 in ((h.0, k.0), k.1), λ h. (h.0.0, ih.1 (h.0.1, h.1)))

pub every-place : {A : Type 0} (P : A → Type 0) (d : A) (xs : List A) → ((k : ℕ) → k < length xs → P (get_or xs k d)) ↔ Every P xs
every-place P d [] = (λ f. tt, λ h k l. absurd (omega arith))
every-place {A} P d (x ∷ xs) = let ih = every-place P d xs in (
  λ f. (f 0 (omega arith), ih.0 (λ k l. f (suc k) (omega arith))),
  λ h. place h.0 (ih.1 h.1),
)
  where
    place : P x → ((k : ℕ) → k < length xs → P (get_or xs k d)) → (k : ℕ) → k < suc (length xs) → P (get_or (x ∷ xs) k d)
    place h f zero l = h
    place h f (suc k) l = f k (omega arith)

pub some-place : {A : Type 0} (P : A → Type 0) (d : A) (xs : List A) → Some P xs ↔ ((k : ℕ) × (k < length xs) × P (get_or xs k d))
some-place P d [] = (λ m. absurd m, λ s. absurd (omega (arith, s.1)))
some-place {A} P d (x ∷ xs) = let ih = some-place P d xs in (
  λ m. ⊎_elim (λ p. (0, omega arith, p)) (λ r. let s = ih.0 r in (suc s.0, omega (arith, s.1), s.2)) m,
  λ s. place ih.1 s.0 s.1 s.2,
)
  where
    place : (((k : ℕ) × (k < length xs) × P (get_or xs k d)) → Some P xs) → (k : ℕ) → k < suc (length xs) → P (get_or (x ∷ xs) k d) → P x ⊎ Some P xs
    place f zero l p = inl p
    place f (suc k) l p = inr (f (k, omega arith, p))
