-- Laws of tests, lists and sets that this crate needs and that belong to the crates logic and sets.
-- Each is one induction on a list, or one step from a law of those crates.
use Rattle.std.proofs.Common.{◌≡◌, ℕ, ◌-◌, ◌^◌, Bool, true, false, List, [], ◌∷◌, ◌++◌, refl, inl, inr, ⊎_elim, le_refl, arith, eqb-true}
use borrow.Author.Tests.{eqb-false}
use Rattle.logic.specs.Lists.{Among, Every}
use Rattle.logic.specs.Tests.{both, either, keep, cons_if}
use Rattle.logic.proofs.Members.{every-at, every_of, kept_from}
use Rattle.sets.specs.Sets.{member, bit_of, Within, Apart}
use Rattle.sets.proofs.Words.{single, single-has}

-- ---- tests
pub both_true : (b : Bool) → both b true ≡ b
unfolding both
both_true true = refl
both_true false = refl

pub both_false : (b : Bool) → both b false ≡ false
unfolding both
both_false true = refl
both_false false = refl

pub either-false : (b : Bool) → either b false ≡ b
unfolding either
either-false true = refl
either-false false = refl

-- ---- lists
pub every_append : {A : Type 0} (P : A → Type 0) (xs ys : List A) → Every P xs → Every P ys → Every P (xs ++ ys)
every_append P [] ys f g = g
every_append P (x ∷ xs) ys f g = (f.0, every_append P xs ys f.1 g)

pub every-keep : {A : Type 0} (P : A → Type 0) (f : A → Bool) (xs : List A) → Every P xs → Every P (keep f xs)
every-keep P f xs e = every_of P (keep f xs) (λ a m. every-at P a xs e (kept_from f a xs m))

pub keep_append : {A : Type 0} (f : A → Bool) (xs ys : List A) → keep f (xs ++ ys) ≡ keep f xs ++ keep f ys
unfolding keep cons_if
keep_append f [] ys = refl
keep_append f (x ∷ xs) ys = rw (keep_append f xs ys) (go (f x))
  where
    go : (b : Bool) → cons_if b x (keep f xs ++ keep f ys) ≡ cons_if b x (keep f xs) ++ keep f ys
    go true = refl
    go false = refl

pub keep-none : {A : Type 0} (f : A → Bool) (xs : List A) → ((a : A) → Among a xs → f a ≡ false) → keep f xs ≡ []
unfolding keep cons_if
keep-none f [] e = refl
keep-none f (x ∷ xs) e = rw (e x (inl refl)) (keep-none f xs (λ a m. e a (inr m)))

pub keep_same : {A : Type 0} (f h : A → Bool) (xs : List A) → ((a : A) → Among a xs → f a ≡ h a) → keep f xs ≡ keep h xs
unfolding keep cons_if
keep_same f h [] e = refl
keep_same f h (x ∷ xs) e = rw (e x (inl refl), keep_same f h xs (λ a m. e a (inr m)))

-- ---- sets
-- Statement i is in the set, or it is not.
pub in-set : (i a : ℕ) → member i a ≡ true → Within (2 ^ (i - 1)) a
unfolding member
in-set i a e = ⊎_elim (λ f. f) (λ f. absurd (let q = eqb-true (bit_of a (i - 1)) 1 e in omega (arith, f (i - 1), single-has (i - 1) (2 ^ (i - 1)) (λ k. le_refl _)))) (single (i - 1) a)

pub off_set : (i a : ℕ) → member i a ≡ false → Apart a (2 ^ (i - 1))
unfolding member
off_set i a e = ⊎_elim (λ f. absurd (eqb-false (bit_of a (i - 1)) 1 e (single-has (i - 1) a f))) (λ f k. omega (arith, f k)) (single (i - 1) a)
