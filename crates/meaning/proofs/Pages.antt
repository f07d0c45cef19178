-- A page is the front of the list of all later resolutions: each answer is the head of what is left.
use mathlib.Core.Path.{◌≡◌, refl, ap}
use mathlib.Core.List.{List, [], ◌∷◌}
use Prim.Native.Nat.{ℕ, zero, suc}
use lib.ListN.{take}
use Rattle.sets.specs.declared.Pair.{Pair}
use Rattle.meaning.specs.Books.{Book}
use Rattle.meaning.specs.Order.{Point, at, LawfulPoint, AllLater}
use Rattle.meaning.specs.Listings.{Answer, found, end, refused, FirstLater}
use Rattle.meaning.specs.Twins.Next.{next_from, onward_from, page_from}
use Rattle.meaning.proofs.Next.{next-is}
use Rattle.meaning.proofs.Demand3.{head_first, tail-later}

pub page-is : (b : Book) (k : ℕ) (from : Point) (xs : List Pair) → LawfulPoint b from → AllLater b from xs → page_from b k from ≡ take k xs
unfolding page_from onward_from
page-is b zero from xs l a = refl
page-is b (suc k) from xs l a = go (next_from b from) (next-is b from l) xs a (λ q qs m c. page-is b k (at q) qs m c)
  where
    go : (x : Answer) → FirstLater b from x → (xs : List Pair) → AllLater b from xs
        → ((q : Pair) (qs : List Pair) → LawfulPoint b (at q) → AllLater b (at q) qs → page_from b k (at q) ≡ take k qs)
        → onward_from x (λ p. page_from b k (at p)) ≡ take (suc k) xs
    go (found p) f [] a ih = absurd (a.all p f.0 f.1)
    go (found p) f (q ∷ qs) a ih = rw (head_first b from p q qs a f) (ap (λ (l : List Pair). q ∷ l) (ih q qs a.only.0.0.view.lawful (tail-later b from q qs a)))
    go end f [] a ih = refl
    go end f (q ∷ qs) a ih = absurd (f q a.only.0.0 a.only.0.1)
    go (refused n line) f xs a ih = absurd f
