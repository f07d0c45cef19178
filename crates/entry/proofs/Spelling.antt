-- The tests of names are the request's words: `name-iff` of the spelling, `before-iff` of the order.
use mathlib.Core.Path.{◌≡◌, refl, ap, ◌∙◌}
use mathlib.Core.Bool.{Bool, true, false}
use mathlib.Core.List.{List, [], ◌∷◌, ◌++◌}
use mathlib.Core.Logic.{◌⊎◌, inl, inr, ⊎_elim, ◌↔◌}
use Prim.Native.Nat.{ℕ, zero, suc, ◌<◌, ◌≤◌}
use native.Mathlib.Omega.{arith}
use lib.Dec.{eqb, leb}
use lib.ListN.{length, get_or, replicate}
use borrow.Author.Tests.{eq-eqb, eqb-true, le-leb, leb-true}
use Rattle.logic.specs.Lists.{Every}
use Rattle.logic.specs.Tests.{both, either}
use Rattle.logic.proofs.Decide.{clash}
use Rattle.logic.proofs.Tests.{both_left, both_right, either_true}
use Rattle.std.specs.declared.cmp.Ordering.TheVariants.{Less}
use Rattle.entry.specs.Names.{Letter, Spelt, Precedes, letter, follows, chain, name_spelt, is_name, compare_to, before}
use Rattle.entry.proofs.Orders.{cons-less, before-less, less-before, less-cons, eq-cons, same-less}

either-front : (b : Bool) → either true b ≡ true
unfolding either
either-front b = refl

-- ---- letters
letter-yes : (b : ℕ) → letter b ≡ true → Letter b
unfolding letter either
letter-yes b e = go (both (leb 48 b) (leb b 57)) refl e
  where
    go : (t : Bool) → both (leb 48 b) (leb b 57) ≡ t → either t (both (leb 65 b) (leb b 90)) ≡ true → Letter b
    go true d f = inl (leb-true 48 b (both_left (leb 48 b) (leb b 57) d), leb-true b 57 (both_right (leb 48 b) (leb b 57) d))
    go false d f = inr (leb-true 65 b (both_left (leb 65 b) (leb b 90) f), leb-true b 90 (both_right (leb 65 b) (leb b 90) f))

letter-holds : (b : ℕ) → Letter b → letter b ≡ true
unfolding letter both
letter-holds b = ⊎_elim (λ h. digit h.0 h.1) (λ h. capital h.0 h.1)
  where
    digit : 48 ≤ b → b ≤ 57 → either (both (leb 48 b) (leb b 57)) (both (leb 65 b) (leb b 90)) ≡ true
    digit f g = ap (λ (t : Bool). either t (both (leb 65 b) (leb b 90))) (rw (le-leb 48 b f, le-leb b 57 g)) ∙ either-front (both (leb 65 b) (leb b 90))

    capital : 65 ≤ b → b ≤ 90 → either (both (leb 48 b) (leb b 57)) (both (leb 65 b) (leb b 90)) ≡ true
    capital f g = ap (either (both (leb 48 b) (leb b 57))) (rw (le-leb 65 b f, le-leb b 90 g)) ∙ either_true (both (leb 48 b) (leb b 57))

-- ---- what stands behind a byte
after-space : (b : ℕ) → follows 32 b ≡ true → b ≡ 32
unfolding follows letter either both
after-space b e = go (eqb b 32) refl e
  where
    go : (t : Bool) → eqb b 32 ≡ t → either t false ≡ true → b ≡ 32
    go true d f = eqb-true b 32 d
    go false d f = absurd (clash f)

space-or-letter : (a b : ℕ) → follows a b ≡ true → (b ≡ 32) ⊎ (letter b ≡ true)
unfolding follows either
space-or-letter a b e = go (eqb b 32) refl e
  where
    go : (t : Bool) → eqb b 32 ≡ t → either t (both (letter a) (letter b)) ≡ true → (b ≡ 32) ⊎ (letter b ≡ true)
    go true d f = inl (eqb-true b 32 d)
    go false d f = inr (both_right (letter a) (letter b) f)

space-follows : (a : ℕ) → follows a 32 ≡ true
unfolding follows either
space-follows a = rw (eq-eqb 32 32 refl)

letter-follows : (a b : ℕ) → letter a ≡ true → letter b ≡ true → follows a b ≡ true
unfolding follows both
letter-follows a b h g = rw (h, g) (either_true (eqb b 32))

-- ---- letters and then spaces
only-spaces : (bs : List ℕ) → chain 32 bs ≡ true → bs ≡ replicate (length bs) 32
unfolding chain
only-spaces [] e = refl
only-spaces (b ∷ bs) e =
    let h : b ≡ 32 = after-space b (both_left (follows 32 b) (chain b bs) e) in
    let r : chain 32 bs ≡ true = rw h at (both_right (follows 32 b) (chain b bs) e) in
    rw h (ap (λ (l : List ℕ). 32 ∷ l) (only-spaces bs r))

pub record Parts (bs : List ℕ) : Type 0 where
  pub front : List ℕ
  pub spaces : ℕ
  pub bytes : bs ≡ front ++ replicate spaces 32
  pub letters : Every Letter front

parts : (a : ℕ) (bs : List ℕ) → chain a bs ≡ true → Parts bs
unfolding chain
parts a [] e = record { front = []; spaces = 0; bytes = refl; letters = tt }
parts a (b ∷ bs) e = go (parts b bs rest) (space-or-letter a b (both_left (follows a b) (chain b bs) e))
  where
    rest : chain b bs ≡ true
    rest = both_right (follows a b) (chain b bs) e

    go : Parts bs → (b ≡ 32) ⊎ (letter b ≡ true) → Parts (b ∷ bs)
    go p (inl h) = record { front = []; spaces = suc (length bs); bytes = rw h (ap (λ (l : List ℕ). 32 ∷ l) (only-spaces bs (rw h at rest))); letters = tt }
    go p (inr h) = record { front = b ∷ p.front; spaces = p.spaces; bytes = ap (λ (l : List ℕ). b ∷ l) p.bytes; letters = (letter-yes b h, p.letters) }

chain-spaces : (a k : ℕ) → chain a (replicate k 32) ≡ true
unfolding chain both
chain-spaces a zero = refl
chain-spaces a (suc k) = rw (space-follows a) (chain-spaces 32 k)

chain-holds : (a : ℕ) (fs : List ℕ) (k : ℕ) → letter a ≡ true → Every Letter fs → chain a (fs ++ replicate k 32) ≡ true
unfolding chain both
chain-holds a [] k h g = chain-spaces a k
chain-holds a (f ∷ fs) k h g = let l = letter-holds f g.0 in rw (letter-follows a f h l) (chain-holds f fs k l g.1)

name-yes : (n : List ℕ) → is_name n ≡ true → Spelt n
unfolding is_name name_spelt
name-yes [] e = absurd (clash (both_right (eqb 0 8) false e))
name-yes (b ∷ bs) e =
    let s : both (letter b) (chain b bs) ≡ true = both_right (eqb (suc (length bs)) 8) (both (letter b) (chain b bs)) e in
    let p = parts b bs (both_right (letter b) (chain b bs) s) in
    record {
      front = b ∷ p.front;
      spaces = p.spaces;
      bytes = ap (λ (l : List ℕ). b ∷ l) p.bytes;
      letters = (letter-yes b (both_left (letter b) (chain b bs) s), p.letters);
      some = omega arith;
      long = eqb-true (suc (length bs)) 8 (both_left (eqb (suc (length bs)) 8) (both (letter b) (chain b bs)) e);
    }

spelt-holds : (fs : List ℕ) (k : ℕ) → 0 < length fs → Every Letter fs → name_spelt (fs ++ replicate k 32) ≡ true
unfolding name_spelt both
spelt-holds [] k h g = absurd (omega arith)
spelt-holds (f ∷ fs) k h g = let l = letter-holds f g.0 in rw l (chain-holds f fs k l g.1)

name-holds : (n : List ℕ) → Spelt n → is_name n ≡ true
unfolding is_name both
name-holds n s = rw (eq-eqb (length n) 8 s.long) (ap name_spelt s.bytes ∙ spelt-holds s.front s.spaces s.some s.letters)

-- A name passes the test exactly if it is spelt as the request says.
pub name-iff : (n : List ℕ) → (is_name n ≡ true) ↔ Spelt n
name-iff n = (name-yes n, name-holds n)

-- ---- the order
less-precedes : (a b : List ℕ) → length a ≡ length b → compare_to a b ≡ Less → Precedes a b
unfolding compare_to
less-precedes [] [] l e = absurd (same-less e)
less-precedes [] (y ∷ ys) l e = absurd (omega arith)
less-precedes (x ∷ xs) [] l e = absurd (omega arith)
less-precedes (x ∷ xs) (y ∷ ys) l e = ⊎_elim first (λ g. later g.0 (less-precedes xs ys (omega arith) g.1)) (cons-less x y (compare_to xs ys) e)
  where
    first : x < y → Precedes (x ∷ xs) (y ∷ ys)
    first h = record { place = 0; agree = λ i g. absurd (omega arith); less = h }

    agreed : x ≡ y → (r : Precedes xs ys) → (i : ℕ) → i < suc r.place → get_or (x ∷ xs) i 0 ≡ get_or (y ∷ ys) i 0
    agreed h r zero g = h
    agreed h r (suc i) g = r.agree i (omega arith)

    later : x ≡ y → Precedes xs ys → Precedes (x ∷ xs) (y ∷ ys)
    later h r = record { place = suc r.place; agree = agreed h r; less = r.less }

precedes-less : (k : ℕ) (a b : List ℕ) → length a ≡ length b → ((i : ℕ) → i < k → get_or a i 0 ≡ get_or b i 0) → get_or a k 0 < get_or b k 0 → compare_to a b ≡ Less
unfolding compare_to
precedes-less zero [] [] l s h = absurd (omega arith)
precedes-less (suc k) [] [] l s h = absurd (omega arith)
precedes-less k [] (y ∷ ys) l s h = absurd (omega arith)
precedes-less k (x ∷ xs) [] l s h = absurd (omega arith)
precedes-less zero (x ∷ xs) (y ∷ ys) l s h = less-cons x y (compare_to xs ys) h
precedes-less (suc k) (x ∷ xs) (y ∷ ys) l s h =
    eq-cons x y (compare_to xs ys) (s 0 (omega arith)) ∙ precedes-less k xs ys (omega arith) (λ i g. s (suc i) (omega arith)) h

-- Of two names of one length the test says which comes before, as the request says it.
pub before-iff : (a b : List ℕ) → length a ≡ length b → (before a b ≡ true) ↔ Precedes a b
before-iff a b l = (λ e. less-precedes a b l (before-less a b e), λ p. less-before a b (precedes-less p.place a b l p.agree p.less))
