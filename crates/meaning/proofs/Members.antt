-- Members of sets of conclusions: what adding a conclusion does, and that a set is its members.
use mathlib.Core.Path.{◌≡◌, refl, sym, ap, ◌∙◌}
use mathlib.Core.Bool.{Bool, true, false}
use Prim.Native.Nat.{ℕ, ◌+◌, ◌-◌, ◌^◌}
use lib.Bits.{bit_or, or_disjoint}
use lib.Dec.{eqb}
use borrow.Author.Tests.{eqb-true, eq-eqb}
use Rattle.logic.specs.Tests.{either}
use Rattle.logic.proofs.Tests.{either_true}
use Rattle.logic.proofs.Decide.{clash}
use Rattle.sets.specs.Sets.{member}
use Rattle.sets.proofs.Words.{member-or, member-single, contained-same, separate-apart, none-and}
use Rattle.meaning.specs.Literals.{Literal, pos, neg, Conclusions, is_in, ◌∈◌, ◌⊆◌}
use Rattle.meaning.specs.Twins.Closure.{add_to, add}

either-false : (b : Bool) → either b false ≡ b
unfolding either
either-false true = refl
either-false false = refl

-- Numbers with the same place are members alike.
place_same : (i j a : ℕ) → i - 1 ≡ j - 1 → member i a ≡ member j a
unfolding member
place_same i j a e = rw e refl

-- A number that is new in the set: the union is the sum.
add-new : (i a : ℕ) → member i a ≡ false → bit_or a (2 ^ (i - 1)) ≡ a + 2 ^ (i - 1)
add-new i a e =
    or_disjoint a (2 ^ (i - 1)) (none-and a (2 ^ (i - 1)) (separate-apart a (2 ^ (i - 1))
    (λ j m n. clash (sym e ∙ (place_same i j a (eqb-true (i - 1) (j - 1) (sym (member-single i j) ∙ n)) ∙ m)))))

-- The members of the set with one more number.
pub member-add : (i j a : ℕ) → member j (add_to i a) ≡ either (member j a) (eqb (i - 1) (j - 1))
unfolding add_to
member-add i j a = go (member i a) refl (eqb (i - 1) (j - 1)) refl
  where
    go : (b : Bool) → member i a ≡ b → (d : Bool) → eqb (i - 1) (j - 1) ≡ d
        → member j (elim b as (λ _. ℕ) [ true ↦ a | false ↦ a + 2 ^ (i - 1) ]) ≡ either (member j a) d
    go true e true q = sym (place_same i j a (eqb-true (i - 1) (j - 1) q)) ∙ e ∙ sym (either_true (member j a))
    go true e false q = sym (either-false (member j a))
    go false e d q = ap (member j) (sym (add-new i a e)) ∙ member-or j a (2 ^ (i - 1)) ∙ ap (either (member j a)) (member-single i j ∙ q)

-- ---- conclusions
pub subset-same : (s t : Conclusions) → s ⊆ t → t ⊆ s → s ≡ t
unfolding is_in
subset-same s t f g =
    let h : s.held ≡ t.held = contained-same s.held t.held (λ i. f (pos i)) (λ i. g (pos i)) in
    let d : s.denied ≡ t.denied = contained-same s.denied t.denied (λ i. f (neg i)) (λ i. g (neg i)) in
    λ i. record { held = h i; denied = d i }

either_l : (a b : Bool) → a ≡ true → either a b ≡ true
unfolding either
either_l true b e = refl
either_l false b e = absurd (clash e)

pub add-keeps : (m l : Literal) (s : Conclusions) → l ∈ s → l ∈ add m s
unfolding is_in add
add-keeps (pos i) (pos j) s e = rw member-add (either_l (member j s.held) (eqb (i - 1) (j - 1)) e)
add-keeps (pos i) (neg j) s e = e
add-keeps (neg i) (pos j) s e = e
add-keeps (neg i) (neg j) s e = rw member-add (either_l (member j s.denied) (eqb (i - 1) (j - 1)) e)

pub add-has : (l : Literal) (s : Conclusions) → l ∈ add l s
unfolding is_in add
add-has (pos i) s = rw (member-add, eq-eqb (i - 1) (i - 1) refl) (either_true (member i s.held))
add-has (neg i) s = rw (member-add, eq-eqb (i - 1) (i - 1) refl) (either_true (member i s.denied))

-- A property of conclusions that is stated of places: place i - 1 for statement i.
abbrev pub At : (ℕ → Type 0) → (ℕ → Type 0) → Literal → Type 0
At P Q (pos i) = P (i - 1)
At P Q (neg i) = Q (i - 1)

pub add-only : (P Q : ℕ → Type 0) (m l : Literal) (s : Conclusions) → At P Q m → ((k : Literal) → k ∈ s → At P Q k) → l ∈ add m s → At P Q l
unfolding is_in add either
add-only P Q (pos i) (pos j) s p f e = go (member j s.held) refl (rw member-add at e)
  where
    go : (b : Bool) → member j s.held ≡ b → either b (eqb (i - 1) (j - 1)) ≡ true → P (j - 1)
    go true q h = f (pos j) q
    go false q h = rw (eqb-true (i - 1) (j - 1) h) at p
add-only P Q (pos i) (neg j) s p f e = f (neg j) e
add-only P Q (neg i) (pos j) s p f e = f (pos j) e
add-only P Q (neg i) (neg j) s p f e = go (member j s.denied) refl (rw member-add at e)
  where
    go : (b : Bool) → member j s.denied ≡ b → either b (eqb (i - 1) (j - 1)) ≡ true → Q (j - 1)
    go true q h = f (neg j) q
    go false q h = rw (eqb-true (i - 1) (j - 1) h) at p
