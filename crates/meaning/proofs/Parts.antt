-- A part of a listing: the resolutions later than a point that have a property, in order, each once. Parts of which one comes before the other
-- join to a part, and the part of a property that every resolution has is the list of all later resolutions.
use mathlib.Core.List.{List, [], ◌∷◌, ◌++◌}
use mathlib.Core.Logic.{◌⊎◌, inl, inr, ⊎_elim}
use Rattle.logic.specs.Lists.{Among, Every}
use Rattle.logic.proofs.Members.{every_map, every-at, every_of, among-left, among-right}
use Rattle.sets.specs.declared.Pair.{Pair}
use Rattle.meaning.specs.Books.{Book, Lawful}
use Rattle.meaning.specs.Resolutions.{Resolution}
use Rattle.meaning.specs.Order.{Before, Ascending, Point, LawfulPoint, Later, AllLater}
use Rattle.meaning.proofs.Sorted.{select, all-later}

-- The list of the resolutions later than the point that have the property.
pub record Part (b : Book) (from : Point) (P : Pair → Type 0) (xs : List Pair) : Type 0 where
  pub only : Every (λ p. Resolution b p × Later from p × P p) xs
  pub all : (p : Pair) → Resolution b p → Later from p → P p → Among p xs
  pub ascending : Ascending xs

every_append : (P : Pair → Type 0) (xs ys : List Pair) → Every P xs → Every P ys → Every P (xs ++ ys)
every_append P [] ys f g = g
every_append P (x ∷ xs) ys f g = (f.0, every_append P xs ys f.1 g)

-- Lists of which each member of one comes before each of the other ascend together.
pub ascending-append : (xs ys : List Pair) → Ascending xs → Ascending ys → Every (λ x. Every (Before x) ys) xs → Ascending (xs ++ ys)
ascending-append [] ys a c f = c
ascending-append (x ∷ xs) ys a c f = (every_append (Before x) xs ys a.0 f.0, ascending-append xs ys a.1 c f.1)

module _ (b : Book) (from : Point) where
  -- Nothing has the property.
  pub part_none : (P : Pair → Type 0) → ((p : Pair) → Resolution b p → Later from p → P p → ⊥) → Part b from P []
  part_none P n = record { only = tt; all = λ p r l h. n p r l h; ascending = tt }

  -- What has P comes before what has Q.
  pub part_join : (P Q : Pair → Type 0) (xs ys : List Pair) → Part b from P xs → Part b from Q ys → ((p q : Pair) → P p → Q q → Before p q)
      → Part b from (λ p. P p ⊎ Q p) (xs ++ ys)
  part_join P Q xs ys s t before =
      record {
        only = every_append (λ p. Resolution b p × Later from p × (P p ⊎ Q p)) xs ys
            (every_map {P = λ p. Resolution b p × Later from p × P p} {Q = λ p. Resolution b p × Later from p × (P p ⊎ Q p)} (λ p h. (h.0, h.1, inl h.2)) xs s.only)
            (every_map {P = λ p. Resolution b p × Later from p × Q p} {Q = λ p. Resolution b p × Later from p × (P p ⊎ Q p)} (λ p h. (h.0, h.1, inr h.2)) ys t.only);
        all = λ p r l h. ⊎_elim (λ x. among-left p xs ys (s.all p r l x)) (λ y. among-right p xs ys (t.all p r l y)) h;
        ascending = ascending-append xs ys s.ascending t.ascending
            (every_map {P = λ p. Resolution b p × Later from p × P p} {Q = λ x. Every (Before x) ys}
            (λ x h. every_map {P = λ p. Resolution b p × Later from p × Q p} {Q = Before x} (λ y k. before x y h.2 k.2) ys t.only) xs s.only);
      }

  -- The same resolutions have the other property.
  pub part_same : (P Q : Pair → Type 0) (xs : List Pair) → ((p : Pair) → Resolution b p → P p → Q p) → ((p : Pair) → Resolution b p → Q p → P p)
      → Part b from P xs → Part b from Q xs
  part_same P Q xs f g s =
      record {
        only = every_map {P = λ p. Resolution b p × Later from p × P p} {Q = λ p. Resolution b p × Later from p × Q p} (λ p h. (h.0, h.1, f p h.0 h.2)) xs s.only;
        all = λ p r l h. s.all p r l (g p r h);
        ascending = s.ascending;
      }

  pub part-all : (P : Pair → Type 0) (xs : List Pair) → ((p : Pair) → Resolution b p → P p) → Part b from P xs → AllLater b from xs
  part-all P xs f s =
      record {
        only = every_map {P = λ p. Resolution b p × Later from p × P p} {Q = λ p. Resolution b p × Later from p} (λ p h. (h.0, h.1)) xs s.only;
        all = λ p r l. s.all p r l (f p r);
        ascending = s.ascending;
      }

  -- The part of a property that is decided is there.
  pub part-there : (P : Pair → Type 0) → ((p : Pair) → P p ⊎ (P p → ⊥)) → LawfulPoint b from → (xs : List Pair) × Part b from P xs
  part-there P d l =
      let a = all-later b from l in
      let ok = every_map {P = λ p. Resolution b p × Later from p} {Q = Lawful b} (λ p h. h.0.view.lawful) a.0 a.1.only in
      let s = select b P a.0 ok (every_of (λ p. P p ⊎ (P p → ⊥)) a.0 (λ p m. d p)) in (
        s.list,
        record {
          only = every_of (λ p. Resolution b p × Later from p × P p) s.list
              (λ p m. let h = s.only p m in let k = every-at (λ p. Resolution b p × Later from p) p a.0 a.1.only h.1 in (k.0, k.1, h.0));
          all = λ p r q h. s.all p h (a.1.all p r q);
          ascending = s.ascending;
        },
      )
