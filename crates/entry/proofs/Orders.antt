-- The order of names, byte by byte: laws of `compare_to`.
use mathlib.Core.Path.{◌≡◌, refl, sym, ap, ◌∙◌}
use mathlib.Core.Bool.{Bool, true, false}
use mathlib.Core.List.{List, [], ◌∷◌}
use mathlib.Core.Logic.{◌↔◌, ◌⊎◌, inl, inr, ⊎_elim}
use Prim.Native.Nat.{ℕ, ◌+◌, ◌-◌, ◌<◌, ◌≤◌}
use native.Mathlib.Omega.{arith}
use lib.Dec.{ltb}
use lib.ListN.{length, get_or, take, drop}
use borrow.Author.Tests.{lt-ltb, le-ltb, ltb-true, ltb-false}
use Rattle.logic.specs.Tests.{pick}
use Rattle.logic.proofs.Decide.{clash}
use Rattle.std.specs.declared.cmp.Ordering.{Ordering}
use Rattle.std.specs.declared.cmp.Ordering.TheVariants.{Less, Equal, Greater}
use Rattle.std.specs.Ordering.{is_lt, is_eq, nat_cmp, MatchOrdering}
use Rattle.std.proofs.lemmas.Cmp.{ranked}
use Rattle.entry.specs.Names.{compare_to, before, same_name}
use Rattle.entry.proofs.Leaves.{part-next}

pub less-same : Less ≡ Equal → ⊥
less-same e = clash (ap is_eq e)

pub more_same : Greater ≡ Equal → ⊥
more_same e = clash (ap is_eq e)

pub same_more : Equal ≡ Greater → ⊥
same_more e = more_same (sym e)

pub less-more : Less ≡ Greater → ⊥
less-more e = clash (sym (ap is_lt e))

pub more-less : Greater ≡ Less → ⊥
more-less e = less-more (sym e)

pub same-less : Equal ≡ Less → ⊥
same-less e = less-same (sym e)

cons_same : (a b : ℕ) (o : Ordering) → pick (ltb a b) Less (pick (ltb b a) Greater o) ≡ Equal → (a ≡ b) × (o ≡ Equal)
unfolding pick
cons_same a b o e = go (ltb a b) (ltb b a) refl refl e
  where
    go : (s t : Bool) → ltb a b ≡ s → ltb b a ≡ t → pick s Less (pick t Greater o) ≡ Equal → (a ≡ b) × (o ≡ Equal)
    go true t es et f = absurd (less-same f)
    go false true es et f = absurd (more_same f)
    go false false es et f = (let x = ltb-false a b es in let y = ltb-false b a et in omega arith, f)

pub cons-more : (a b : ℕ) (o : Ordering) → pick (ltb a b) Less (pick (ltb b a) Greater o) ≡ Greater → (b < a) ⊎ ((a ≡ b) × (o ≡ Greater))
unfolding pick
cons-more a b o e = go (ltb a b) (ltb b a) refl refl e
  where
    go : (s t : Bool) → ltb a b ≡ s → ltb b a ≡ t → pick s Less (pick t Greater o) ≡ Greater → (b < a) ⊎ ((a ≡ b) × (o ≡ Greater))
    go true t es et f = absurd (less-more f)
    go false true es et f = inl (ltb-true b a et)
    go false false es et f = inr (let x = ltb-false a b es in let y = ltb-false b a et in omega arith, f)

pub cons-less : (a b : ℕ) (o : Ordering) → pick (ltb a b) Less (pick (ltb b a) Greater o) ≡ Less → (a < b) ⊎ ((a ≡ b) × (o ≡ Less))
unfolding pick
cons-less a b o e = go (ltb a b) (ltb b a) refl refl e
  where
    go : (s t : Bool) → ltb a b ≡ s → ltb b a ≡ t → pick s Less (pick t Greater o) ≡ Less → (a < b) ⊎ ((a ≡ b) × (o ≡ Less))
    go true t es et f = inl (ltb-true a b es)
    go false true es et f = absurd (more-less f)
    go false false es et f = inr (let x = ltb-false a b es in let y = ltb-false b a et in omega arith, f)

pub more-cons : (a b : ℕ) (o : Ordering) → b < a → pick (ltb a b) Less (pick (ltb b a) Greater o) ≡ Greater
unfolding pick
more-cons a b o h = rw (le-ltb a b (omega arith), lt-ltb b a h)

pub eq-cons : (a b : ℕ) (o : Ordering) → a ≡ b → pick (ltb a b) Less (pick (ltb b a) Greater o) ≡ o
unfolding pick
eq-cons a b o h = rw (le-ltb a b (omega arith), le-ltb b a (omega arith))

pub same-eq : (a b : List ℕ) → compare_to a b ≡ Equal → a ≡ b
unfolding compare_to
same-eq [] [] e = refl
same-eq [] (b ∷ bs) e = absurd (less-same e)
same-eq (a ∷ xs) [] e = absurd (more_same e)
same-eq (a ∷ xs) (b ∷ bs) e = let d = cons_same a b (compare_to xs bs) e in rw (d.0, same-eq xs bs d.1)

pub more-trans : (a b n : List ℕ) → compare_to a n ≡ Greater → compare_to a b ≡ Less → compare_to b n ≡ Greater
unfolding compare_to
more-trans [] b [] e d = absurd (same_more e)
more-trans [] b (z ∷ zs) e d = absurd (less-more e)
more-trans (x ∷ xs) [] n e d = absurd (more-less d)
more-trans (x ∷ xs) (y ∷ ys) [] e d = refl
more-trans (x ∷ xs) (y ∷ ys) (z ∷ zs) e d =
    ⊎_elim
    (λ g. ⊎_elim (λ h. more-cons y z (compare_to ys zs) (omega arith)) (λ h. more-cons y z (compare_to ys zs) (let q = h.0 in omega arith)) (cons-less x y (compare_to xs ys) d))
    (λ g. ⊎_elim (λ h. more-cons y z (compare_to ys zs) (let q = g.0 in omega arith)) (λ h. eq-cons y z (compare_to ys zs) (let q = g.0 in let r = h.0 in omega arith) ∙ more-trans xs ys zs g.1 h.1) (cons-less x y (compare_to xs ys) d))
    (cons-more x z (compare_to xs zs) e)

pub before-less : (a b : List ℕ) → before a b ≡ true → compare_to a b ≡ Less
unfolding before
before-less a b e = go (compare_to a b) refl e
  where
    go : (o : Ordering) → compare_to a b ≡ o → is_lt o ≡ true → compare_to a b ≡ Less
    go Less d f = d
    go Equal d f = absurd (clash f)
    go Greater d f = absurd (clash f)

pub less-cons : (a b : ℕ) (o : Ordering) → a < b → pick (ltb a b) Less (pick (ltb b a) Greater o) ≡ Less
unfolding pick
less-cons a b o h = rw (lt-ltb a b h)

pub more-flip : (a b : List ℕ) → compare_to a b ≡ Greater → compare_to b a ≡ Less
unfolding compare_to
more-flip [] [] e = absurd (same_more e)
more-flip [] (b ∷ bs) e = absurd (less-more e)
more-flip (a ∷ xs) [] e = refl
more-flip (a ∷ xs) (b ∷ bs) e = ⊎_elim (λ g. less-cons b a (compare_to bs xs) g) (λ g. eq-cons b a (compare_to bs xs) (sym g.0) ∙ more-flip xs bs g.1) (cons-more a b (compare_to xs bs) e)

pub less-flip : (a b : List ℕ) → compare_to a b ≡ Less → compare_to b a ≡ Greater
unfolding compare_to
less-flip [] [] e = absurd (same-less e)
less-flip [] (b ∷ bs) e = refl
less-flip (a ∷ xs) [] e = absurd (more-less e)
less-flip (a ∷ xs) (b ∷ bs) e = ⊎_elim (λ g. more-cons b a (compare_to bs xs) g) (λ g. eq-cons b a (compare_to bs xs) (sym g.0) ∙ less-flip xs bs g.1) (cons-less a b (compare_to xs bs) e)

pub less-trans : (a b c : List ℕ) → compare_to a b ≡ Less → compare_to b c ≡ Less → compare_to a c ≡ Less
less-trans a b c e d = more-flip c a (more-trans b c a (less-flip a b e) d)

pub same_self : (a : List ℕ) → compare_to a a ≡ Equal
unfolding compare_to
same_self [] = refl
same_self (a ∷ xs) = eq-cons a a (compare_to xs xs) refl ∙ same_self xs

pub less-before : (a b : List ℕ) → compare_to a b ≡ Less → before a b ≡ true
unfolding before
less-before a b e = rw e

pub same_true : (a b : List ℕ) → same_name a b ≡ true → a ≡ b
unfolding same_name
same_true a b e = go (compare_to a b) refl e
  where
    go : (o : Ordering) → compare_to a b ≡ o → is_eq o ≡ true → a ≡ b
    go Less d f = absurd (clash f)
    go Equal d f = same-eq a b d
    go Greater d f = absurd (clash f)

-- The test of names finds equal names and no others.
pub same-iff : (a b : List ℕ) → (same_name a b ≡ true) ↔ (a ≡ b)
unfolding same_name
same-iff a b = (same_true a b, λ e. rw (e, same_self b))

-- Byte by byte, from the first: what is left after k equal bytes compares as all does.
module _ (a b : List ℕ) where
  unfoldable pub Compared : ℕ → Type 0
  Compared k = compare_to (take (8 - k) (drop k a)) (take (8 - k) (drop k b)) ≡ compare_to (take 8 a) (take 8 b)

  pub compare_start : Compared 0
  unfolding Compared
  compare_start = refl

  module _ (k : ℕ) (h : k < 8) (ha : 8 ≤ length a) (hb : 8 ≤ length b) (inv : Compared k) where
    pub compare-differs : (get_or a k 0 ≡ get_or b k 0 → ⊥) → (o : Ordering) → o ≡ nat_cmp (get_or a k 0) (get_or b k 0) → o ≡ compare_to (take 8 a) (take 8 b)
    unfolding Compared compare_to pick
    compare-differs n o e = e ∙ go (nat_cmp (get_or a k 0) (get_or b k 0)) (ranked (get_or a k 0) (get_or b k 0) (nat_cmp (get_or a k 0) (get_or b k 0)) refl)
      where
        go : (o : Ordering) → MatchOrdering o (get_or a k 0 < get_or b k 0) (get_or a k 0 ≡ get_or b k 0) (get_or b k 0 < get_or a k 0) → o ≡ compare_to (take 8 a) (take 8 b)
        go Less l = rw (part-next a 8 k h ha, part-next b 8 k h hb, lt-ltb _ _ l) at inv
        go Equal l = absurd (n l)
        go Greater l = rw (part-next a 8 k h ha, part-next b 8 k h hb, le-ltb (get_or a k 0) (get_or b k 0) (omega arith), lt-ltb _ _ l) at inv

    pub compare-next : get_or a k 0 ≡ get_or b k 0 → Compared (k + 1)
    unfolding Compared compare_to pick
    compare-next l = rw (part-next a 8 k h ha, part-next b 8 k h hb, le-ltb (get_or a k 0) (get_or b k 0) (omega arith), le-ltb (get_or b k 0) (get_or a k 0) (omega arith)) at inv

  pub compare-end : (k : ℕ) → 8 ≤ k → Compared k → Equal ≡ compare_to (take 8 a) (take 8 b)
  unfolding Compared compare_to
  compare-end k h inv = let z : 8 - k ≡ 0 = omega arith in rw z at inv
