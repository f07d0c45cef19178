-- Members of lists: every and some by members, members of joined and of kept lists.
use mathlib.Core.Path.{◌≡◌, refl, sym, ◌∙◌}
use mathlib.Core.Bool.{Bool, true, false}
use mathlib.Core.List.{List, [], ◌∷◌, ◌++◌}
use mathlib.Core.Logic.{◌⊎◌, inl, inr, ⊎_elim}
use Rattle.logic.specs.Lists.{Every, Some, Among}
use Rattle.logic.specs.Tests.{cons_if, keep, concat_map}
use Rattle.logic.proofs.Decide.{clash}

pub every_map : {A : Type 0} {P Q : A → Type 0} → ((x : A) → P x → Q x) → (xs : List A) → Every P xs → Every Q xs
every_map f [] e = tt
every_map f (x ∷ xs) e = (f x e.0, every_map f xs e.1)

pub every-at : {A : Type 0} (P : A → Type 0) (a : A) (xs : List A) → Every P xs → Among a xs → P a
every-at P a [] e m = absurd m
every-at P a (x ∷ xs) e m = ⊎_elim (λ q. rw q at e.0) (λ r. every-at P a xs e.1 r) m

pub every_of : {A : Type 0} (P : A → Type 0) (xs : List A) → ((a : A) → Among a xs → P a) → Every P xs
every_of P [] f = tt
every_of P (x ∷ xs) f = (f x (inl refl), every_of P xs (λ a m. f a (inr m)))

pub some_of : {A : Type 0} (P : A → Type 0) (a : A) (xs : List A) → P a → Among a xs → Some P xs
some_of P a [] p m = absurd m
some_of P a (x ∷ xs) p m = ⊎_elim (λ q. inl (rw q p)) (λ r. inr (some_of P a xs p r)) m

pub some_at : {A : Type 0} (P : A → Type 0) (xs : List A) → Some P xs → (a : A) × Among a xs × P a
some_at P [] s = absurd s
some_at P (x ∷ xs) s = ⊎_elim (λ p. (x, inl refl, p)) (λ r. let q = some_at P xs r in (q.0, inr q.1, q.2)) s

pub among-left : {A : Type 0} (a : A) (xs ys : List A) → Among a xs → Among a (xs ++ ys)
among-left a [] ys m = absurd m
among-left a (x ∷ xs) ys m = ⊎_elim (λ q. inl q) (λ r. inr (among-left a xs ys r)) m

pub among-right : {A : Type 0} (a : A) (xs ys : List A) → Among a ys → Among a (xs ++ ys)
among-right a [] ys m = m
among-right a (x ∷ xs) ys m = inr (among-right a xs ys m)

pub among-either : {A : Type 0} (a : A) (xs ys : List A) → Among a (xs ++ ys) → Among a xs ⊎ Among a ys
among-either a [] ys m = inr m
among-either a (x ∷ xs) ys m = ⊎_elim (λ e. inl (inl e)) (λ n. ⊎_elim (λ k. inl (inr k)) (λ k. inr k) (among-either a xs ys n)) m

pub among-concat : {A B : Type 0} (f : A → List B) (a : A) (b : B) (xs : List A) → Among a xs → Among b (f a) → Among b (concat_map f xs)
unfolding concat_map
among-concat f a b [] m n = absurd m
among-concat f a b (x ∷ xs) m n =
    ⊎_elim (λ q. among-left b (f x) (concat_map f xs) (rw q n)) (λ r. among-right b (f x) (concat_map f xs) (among-concat f a b xs r n)) m

-- The members kept are those that pass.
pub keep-in : {A : Type 0} (f : A → Bool) (a : A) (xs : List A) → Among a xs → f a ≡ true → Among a (keep f xs)
unfolding keep cons_if
keep-in f a [] m e = absurd m
keep-in f a (x ∷ xs) m e = go (f x) refl (λ r. keep-in f a xs r e)
  where
    go : (b : Bool) → f x ≡ b → (Among a xs → Among a (keep f xs)) → Among a (cons_if b x (keep f xs))
    go true q ih = ⊎_elim (λ z. inl z) (λ r. inr (ih r)) m
    go false q ih = ⊎_elim (λ z. absurd (clash (sym q ∙ (rw z e)))) (λ r. ih r) m

pub keep-only : {A : Type 0} (f : A → Bool) (xs : List A) → Every (λ a. f a ≡ true) (keep f xs)
unfolding keep cons_if
keep-only f [] = tt
keep-only f (x ∷ xs) = go (f x) refl (keep-only f xs)
  where
    go : (b : Bool) → f x ≡ b → Every (λ a. f a ≡ true) (keep f xs) → Every (λ a. f a ≡ true) (cons_if b x (keep f xs))
    go true q ih = (q, ih)
    go false q ih = ih

pub kept_from : {A : Type 0} (f : A → Bool) (a : A) (xs : List A) → Among a (keep f xs) → Among a xs
unfolding keep cons_if
kept_from f a [] m = m
kept_from f a (x ∷ xs) m = go (f x) m (kept_from f a xs)
  where
    go : (b : Bool) → Among a (cons_if b x (keep f xs)) → (Among a (keep f xs) → Among a xs) → Among a (x ∷ xs)
    go true m ih = ⊎_elim (λ q. inl q) (λ r. inr (ih r)) m
    go false m ih = inr (ih m)

pub among_same : {A : Type 0} {a c : A} (xs : List A) → a ≡ c → Among a xs → Among c xs
among_same xs e m = rw e at m
