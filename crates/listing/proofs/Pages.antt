-- Pages one after another: a full page goes on from its last pair, and a page that is not full is all there is.
use Prim.Native.Nat.{ℕ, zero, suc, ◌+◌, ◌<◌, ◌≤◌}
use mathlib.Core.Path.{◌≡◌, refl, ap}
use mathlib.Core.List.{List, [], ◌∷◌, ◌++◌}
use native.Mathlib.Nat.{zero-add, suc-add, add-zero}
use native.Mathlib.Omega.{arith}
use lib.ListN.{length, take}
use Rattle.sets.specs.declared.Pair.{Pair}
use Rattle.meaning.specs.Books.{Book}
use Rattle.meaning.specs.Order.{Point, at, LawfulPoint}
use Rattle.meaning.specs.Listings.{Answer, found, end, refused, FirstLater}
use Rattle.meaning.specs.Twins.Next.{next_from, onward_from, page_from}
use Rattle.meaning.proofs.Next.{next-is}
use Rattle.page.specs.Pages.{pair_at, pairs_in}

-- The point that some pairs lead to.
abbrev pub last_point : Point → List Pair → Point
last_point from [] = from
last_point from (p ∷ ps) = last_point (at p) ps

module _ (b : Book) (m : ℕ) where
  pub page-full : (k : ℕ) (from : Point) → length (page_from b k from) ≡ k → page_from b (k + m) from ≡ page_from b k from ++ page_from b m (last_point from (page_from b k from))
  unfolding page_from onward_from
  page-full zero from e = rw (zero-add m) refl
  page-full (suc k) from e = rw (suc-add k m) (go (next_from b from) e (λ p. page-full k (at p)))
    where
      go : (x : Answer) → length (onward_from x (λ p. page_from b k (at p))) ≡ suc k
          → ((p : Pair) → length (page_from b k (at p)) ≡ k → page_from b (k + m) (at p) ≡ page_from b k (at p) ++ page_from b m (last_point (at p) (page_from b k (at p))))
          → onward_from x (λ p. page_from b (k + m) (at p)) ≡ onward_from x (λ p. page_from b k (at p)) ++ page_from b m (last_point from (onward_from x (λ p. page_from b k (at p))))
      go (found p) h ih = ap (λ (ps : List Pair). p ∷ ps) (ih p (omega (arith, h)))
      go end h ih = absurd (omega (arith, h))
      go (refused q l) h ih = absurd (omega (arith, h))

-- A page that is not full is all there is, whatever more is asked for.
pub page-same : (b : Book) (k j : ℕ) (from : Point) → length (page_from b k from) < k → length (page_from b k from) < j → page_from b j from ≡ page_from b k from
unfolding page_from onward_from
page-same b zero j from h g = absurd (omega arith)
page-same b (suc k) zero from h g = absurd (omega arith)
page-same b (suc k) (suc j) from h g = go (next_from b from) h g (λ p. page-same b k j (at p))
  where
    go : (x : Answer) → length (onward_from x (λ p. page_from b k (at p))) < suc k → length (onward_from x (λ p. page_from b k (at p))) < suc j
        → ((p : Pair) → length (page_from b k (at p)) < k → length (page_from b k (at p)) < j → page_from b j (at p) ≡ page_from b k (at p))
        → onward_from x (λ p. page_from b j (at p)) ≡ onward_from x (λ p. page_from b k (at p))
    go (found p) h g ih = ap (λ (ps : List Pair). p ∷ ps) (ih p (omega (arith, h)) (omega (arith, g)))
    go end h g ih = refl
    go (refused q l) h g ih = refl

-- A smaller page is the front of a larger one.
pub page-take : (b : Book) (j k : ℕ) (from : Point) → j ≤ k → page_from b j from ≡ take j (page_from b k from)
unfolding page_from onward_from
page-take b zero k from h = refl
page-take b (suc j) zero from h = absurd (omega arith)
page-take b (suc j) (suc k) from h = go (next_from b from) (λ p. page-take b j k (at p) (omega arith))
  where
    go : (x : Answer) → ((p : Pair) → page_from b j (at p) ≡ take j (page_from b k (at p))) → onward_from x (λ p. page_from b j (at p)) ≡ take (suc j) (onward_from x (λ p. page_from b k (at p)))
    go (found p) ih = ap (λ (ps : List Pair). p ∷ ps) (ih p)
    go end ih = refl
    go (refused q l) ih = refl

-- A page has no more pairs than were asked for.
pub page-length : (b : Book) (k : ℕ) (from : Point) → length (page_from b k from) ≤ k
unfolding page_from onward_from
page-length b zero from = omega arith
page-length b (suc k) from = go (next_from b from) (λ p. page-length b k (at p))
  where
    go : (x : Answer) → ((p : Pair) → length (page_from b k (at p)) ≤ k) → length (onward_from x (λ p. page_from b k (at p))) ≤ suc k
    go (found p) ih = let h = ih p in omega arith
    go end ih = omega arith
    go (refused q l) ih = omega arith

-- A pair that is answered is lawful, and so is the point that a page leads to.
pub page-lawful : (b : Book) (k : ℕ) (from : Point) → LawfulPoint b from → LawfulPoint b (last_point from (page_from b k from))
unfolding page_from onward_from
page-lawful b zero from l = l
page-lawful b (suc k) from l = go (next_from b from) (next-is b from l) (λ p. page-lawful b k (at p))
  where
    go : (x : Answer) → FirstLater b from x → ((p : Pair) → LawfulPoint b (at p) → LawfulPoint b (last_point (at p) (page_from b k (at p)))) → LawfulPoint b (last_point from (onward_from x (λ p. page_from b k (at p))))
    go (found p) f ih = ih p f.0.view.lawful
    go end f ih = l
    go (refused q i) f ih = l

-- ---- the last pair
-- The last of them.
pub last-point : (k i : ℕ) (from : Point) (l : List ℕ) → last_point from (pairs_in l i (suc k)) ≡ at (pair_at l (i + k))
unfolding pairs_in
last-point zero i from l = rw (add-zero i) refl
last-point (suc k) i from l = let e : i + suc k ≡ suc i + k = omega arith in rw e (last-point k (suc i) (at (pair_at l i)) l)
