-- Pieces stored into a list one after the other: before each, what is left to put, from here, gives the final list. And a part of the first so many.
use mathlib.Core.Path.{◌≡◌, refl, sym, ap, ◌∙◌}
use mathlib.Core.List.{List, [], ◌∷◌, ◌++◌}
use Prim.Native.Nat.{ℕ, zero, suc, ◌+◌, ◌-◌, ◌*◌, ◌<◌, ◌≤◌}
use native.Mathlib.Nat.{add-zero, suc-mul, zero-mul}
use native.Mathlib.Numerals.{add-one}
use native.Mathlib.Omega.{arith}
use lib.ListN.{length, take, drop, set, length-append}
use lib.Seq.{sets, length-sets, take-nil}

-- What is left after d of the first d + m are the first m of what is left after d.
pub drop-take : {A : Type 0} (d m : ℕ) (l : List A) → drop d (take (d + m) l) ≡ take m (drop d l)
drop-take zero m l = let e : 0 + m ≡ m = omega arith in rw e refl
drop-take (suc d) m [] = let e : suc d + m ≡ suc (d + m) = omega arith in rw e (sym (take-nil m))
drop-take (suc d) m (x ∷ l) = let e : suc d + m ≡ suc (d + m) = omega arith in rw e (drop-take d m l)

-- Two lists joined are stored as the first, and then the second from where the first ends.
pub sets-append : {A : Type 0} (a b l : List A) (i : ℕ) → sets l i (a ++ b) ≡ sets (sets l i a) (i + length a) b
sets-append [] b l i = rw add-zero
sets-append (x ∷ a) b l i = let e : i + suc (length a) ≡ suc i + length a = omega arith in rw e (sets-append a b (set l i x) (suc i))

-- The law: a piece is put, and what is left after it gives what was to be put.
pub put_on : {A : Type 0} (l m p rest whole : List A) (a b : ℕ) → sets l a (p ++ rest) ≡ whole → m ≡ sets l a p → b ≡ a + length p → sets m b rest ≡ whole
put_on l m p rest whole a b e em eb = rw (em, eb, ← sets-append p rest l a) e

-- ---- pieces put by a loop
-- The n pieces from piece i on.
unfoldable pub pieces : {A : Type 0} → (ℕ → List A) → ℕ → ℕ → List A
pieces f i zero = []
pieces f i (suc n) = f i ++ pieces f (suc i) n

-- Pieces of one length.
pub pieces-length : {A : Type 0} (f : ℕ → List A) (w : ℕ) → ((i : ℕ) → length (f i) ≡ w) → (n i : ℕ) → length (pieces f i n) ≡ n * w
unfolding pieces
pieces-length f w e zero i = rw (zero-mul w)
pieces-length f w e (suc n) i = rw (length-append (f i) (pieces f (suc i) n), e i, pieces-length f w e n (suc i), suc-mul n w) (omega arith)

module _ {A : Type 0} (f : ℕ → List A) (n : ℕ) (l₀ : List A) (at : ℕ) where
  -- The first i of n pieces are put: the list is l, and the next piece's place is a.
  pub record Putting (l : List A) (a i : ℕ) : Type 0 where
    pub few : i ≤ n
    pub same_size : length l ≡ length l₀
    pub place : a + length (pieces f i (n - i)) ≡ at + length (pieces f 0 n)
    pub left : sets l a (pieces f i (n - i)) ≡ sets l₀ at (pieces f 0 n)

  pub putting-start : (a : ℕ) → a ≡ at → Putting l₀ a 0
  putting-start a e = let z : n - 0 ≡ n = omega arith in record { few = omega arith; same_size = refl; place = rw (z, e); left = rw (z, e) }

  module _ (l : List A) (a i : ℕ) (g : Putting l a i) (h : i < n) where
    one_more : pieces f i (n - i) ≡ f i ++ pieces f (i + 1) (n - (i + 1))
    unfolding pieces
    one_more = let e : n - i ≡ suc (n - (i + 1)) = omega arith in rw (e, add-one i)

    one_place : a + length (f i) + length (pieces f (i + 1) (n - (i + 1))) ≡ at + length (pieces f 0 n)
    one_place = omega (arith, g.place, ap length one_more, length-append (f i) (pieces f (i + 1) (n - (i + 1))))

    -- There is room for the next piece where there was room for all.
    pub putting-room : at + length (pieces f 0 n) ≤ length l₀ → a + length (f i) ≤ length l
    putting-room r = omega (arith, one_place, g.same_size)

    pub putting-next : (m : List A) (b : ℕ) → m ≡ sets l a (f i) → b ≡ a + length (f i) → Putting m b (i + 1)
    putting-next m b em eb = record {
      few = omega arith;
      same_size = ap length em ∙ length-sets l a (f i) ∙ g.same_size;
      place = rw eb one_place;
      left = put_on l m (f i) (pieces f (i + 1) (n - (i + 1))) (sets l₀ at (pieces f 0 n)) a b (rw one_more at g.left) em eb;
    }

  -- All are put.
  pub putting-end : (l : List A) (a i : ℕ) (all : List A) → Putting l a i → n ≤ i → all ≡ pieces f 0 n → (l ≡ sets l₀ at all) × (a ≡ at + length all)
  unfolding pieces
  putting-end l a i all g h e = let z : n - i ≡ 0 = omega arith in rw e (rw z at g.left, omega (arith, rw z at g.place))
